-- The memory of a plan with counts: what it remembers, and so answers, after any updates.
use Rattle.std.specs.Prelude.{ℕ, Bool, not, ◌&&◌, cond, List, [], ◌∷◌, eqb}
use Rattle.lists.specs.Basics.{same}
use Rattle.groups.specs.Groups.{Plan, multi_plan_of}
use Rattle.plan_history.specs.Memory.{Answered}
use Rattle.multi_coloring.specs.Counts.{multi_update_refusal}

-- the flags, endpoints and counts that a plan remembers; a fresh plan remembers empty lists
pub record MultiMemory : Type 0 where
  pub flags : List ℕ
  pub ends : List ℕ
  pub counts : List ℕ

abbrev pub multi_fresh : MultiMemory
multi_fresh = record { flags = []; ends = []; counts = [] }

-- equal input that passes the questions is "unchanged", other accepted input is "changed", with the same endpoints too
unfoldable pub multi_changes : MultiMemory → List ℕ → List ℕ → List ℕ → Bool → Bool
multi_changes m flags ends counts room =
    eqb (multi_update_refusal flags ends counts room) 0 && not (same flags m.flags && same counts m.counts && same ends m.ends)

-- what is remembered after an update
unfoldable pub multi_remembered : MultiMemory → List ℕ → List ℕ → List ℕ → Bool → MultiMemory
multi_remembered m flags ends counts room = cond (multi_changes m flags ends counts room) (record { flags = flags; ends = ends; counts = counts }) m

-- the plan of what is remembered
abbrev pub multi_plan_for : MultiMemory → Plan
multi_plan_for m = multi_plan_of m.flags m.ends m.counts

-- the input of an update, and the answers to a whole list
pub record MultiInput : Type 0 where
  pub flags : List ℕ
  pub ends : List ℕ
  pub counts : List ℕ
  pub room : Bool

unfoldable pub multi_answers : MultiMemory → List MultiInput → List Answered
multi_answers m [] = []
multi_answers m (u ∷ us) =
    record { refusal = multi_update_refusal u.flags u.ends u.counts u.room; changed = multi_changes m u.flags u.ends u.counts u.room }
    ∷ multi_answers (multi_remembered m u.flags u.ends u.counts u.room) us
