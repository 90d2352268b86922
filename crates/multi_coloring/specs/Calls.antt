-- What an update and the lookup of positions of a plan with counts answer, and what an update leaves in its fourteen tables.
use Rattle.std.specs.Prelude.{ℕ, ◌≡◌, Bool, not, ◌&&◌, cond, List, [], eqb, leb, length, take, Result}
use Rattle.std.specs.Borrow.{Bor}
use Rattle.lists.specs.Basics.{same}
use Rattle.frame.specs.declared.refusal.Refusal.{Refusal}
use Rattle.frame.specs.Refusals.{refused_by}
use Rattle.groups.specs.Groups.{Plan, multi_plan_of}
use Rattle.plan_questions.specs.Plans.{Tables, roomy_with}
use Rattle.constraint_coloring.specs.Calls.{update_number, update_refused, update_changed, plan_after, fresh_plan, carried, written, Leaves, positions_refused, positions_values}
use Rattle.constraint_coloring.specs.declared.ConstraintColoring.{ConstraintColoring}
use Rattle.constraint_coloring.specs.declared.Update.{Update}
use Rattle.multi_coloring.specs.Counts.{counts_read, multi_update_refusal, multi_positions_refusal, positions_in}
use Rattle.multi_coloring.specs.declared.MultiColoring.{MultiColoring}

-- ---- an update

-- a fresh plan
abbrev pub fresh_multi : MultiColoring
fresh_multi = record { plan = fresh_plan }

-- what is carried by value
abbrev pub multi_carried : Plan → MultiColoring
multi_carried q = record { plan = carried q }

-- the same numbers, as a plan of pairs carries them
abbrev pub numbers_of : MultiColoring → ConstraintColoring
numbers_of p = p.plan

-- the plan, its tables t and its counts c hold exactly these flags, endpoints and counts
unfoldable pub multi_holds : MultiColoring → Tables → List ℕ → List ℕ → List ℕ → List ℕ → Bool
multi_holds p t c flags ends counts =
    eqb (length flags) p.plan.body_count && eqb (length counts) p.plan.constraint_count
    && same flags (take (length flags) t.dynamic_bodies) && same counts (counts_read (length counts) c) && same ends (take (length ends) t.endpoints)

-- question 6
abbrev pub multi_roomy : Tables → List ℕ → List ℕ → List ℕ → List ℕ → Bool
multi_roomy t c flags ends counts = leb (length counts) (length c) && roomy_with (length flags) (length counts) (length ends) t

-- the refusal of an update with these tables, and whether it answers "changed"
unfoldable pub multi_refusal_with : Tables → List ℕ → List ℕ → List ℕ → List ℕ → ℕ
multi_refusal_with t c flags ends counts = multi_update_refusal flags ends counts (multi_roomy t c flags ends counts)

unfoldable pub multi_changes_with : MultiColoring → Tables → List ℕ → List ℕ → List ℕ → List ℕ → Bool
multi_changes_with p t c flags ends counts = eqb (multi_refusal_with t c flags ends counts) 0 && not (multi_holds p t c flags ends counts)

-- the contract: the plan p, the tables t and the counts c at entry, the tables u and the counts c' at exit, the answer r
pub record MultiUpdated (p : MultiColoring) (flags ends counts : List ℕ) (t : Tables) (c : List ℕ) (u : Tables) (c' : List ℕ) (r : Update MultiColoring) : Type 0 where
  pub refusal : update_number r ≡ multi_refusal_with t c flags ends counts
  pub refused : update_refused r ≡ not (eqb (multi_refusal_with t c flags ends counts) 0)
  pub changed : update_changed r ≡ multi_changes_with p t c flags ends counts
  pub plan : plan_after p r ≡ cond (multi_changes_with p t c flags ends counts) (multi_carried (multi_plan_of flags ends counts)) p
  pub tables : Leaves (multi_changes_with p t c flags ends counts) flags ends (multi_plan_of flags ends counts) t u
  pub counts_are : c' ≡ written (multi_changes_with p t c flags ends counts) counts c

-- ---- the lookup of positions

-- its contract: the positions of constraint r in a plan of n constraints, none where it is refused
pub record MultiLocated (n : ℕ) (counts table : List ℕ) (r : ℕ) (answer : Result (Bor (List ℕ)) Refusal) : Type 0 where
  pub refusal : refused_by answer ≡ multi_positions_refusal n counts table r
  pub refused : positions_refused answer ≡ not (eqb (multi_positions_refusal n counts table r) 0)
  pub values : positions_values answer ≡ cond (eqb (multi_positions_refusal n counts table r) 0) (positions_in n counts table r) []
