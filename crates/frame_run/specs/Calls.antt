-- What a run leaves in its tables; run_answer/specs has what it is lent and its answer.
use Rattle.std.specs.Prelude.{ℕ, ◌≡◌, Bool, false, not, List, eqb, length, Result, is_err}
use Rattle.lists.specs.Basics.{over}
use Rattle.frame.specs.Files.{second, count_b, count_m, count_j, decode}
use Rattle.frame.specs.declared.refusal.Refusal.{Refusal}
use Rattle.frame.specs.Refusals.{refused_by}
use Rattle.island.specs.Calls.{Built}
use Rattle.schedules.specs.Runs.{run_refusal, run_of}
use Rattle.run_answer.specs.declared.Report.{Report}
use Rattle.run_answer.specs.Answers.{run_report, reported}
use Rattle.run_answer.specs.Lent.{Lent, roomy_for}

-- question 6 of the file bs
unfoldable pub roomy_in : List ℕ → Lent → Bool
roomy_in bs l = roomy_for (second bs) (count_b bs) (count_m bs) (count_j bs) l

-- a table of the workspace: free after 7 or acceptance but for its length; after any other refusal as it was
pub record Worked (k : ℕ) (old new : List ℕ) : Type 0 where
  pub kept : (k ≡ 0 → ⊥) → (k ≡ 7 → ⊥) → new ≡ old
  pub long : length new ≡ length old

-- a table of counts: of the workspace where the constraints have counts, else as it was
pub record WorkedCounts (counted : Bool) (k : ℕ) (old new : List ℕ) : Type 0 where
  pub pairs : counted ≡ false → new ≡ old
  pub worked : Worked k old new

-- the refusal of the file bs on the tables l, or 0
abbrev pub refusal_in : List ℕ → Lent → ℕ
refusal_in bs l = run_refusal bs (roomy_in bs l)

-- the contract: the lent tables at entry (l) and at exit (m), and the answer
pub record Ran (bs : List ℕ) (l m : Lent) (r : Result Report Refusal) : Type 0 where
  pub refusal : refused_by r ≡ refusal_in bs l
  pub refused : is_err r ≡ not (eqb (refusal_in bs l) 0)
  pub report : run_report r ≡ reported (run_of bs (roomy_in bs l))
  -- the turns from place 0 on; past them the turn table keeps its content
  pub turns : m.turns ≡ over (run_of bs (roomy_in bs l)).table l.turns
  -- the island tables stand as an islands call leaves them
  pub islands : Built (decode bs) (refusal_in bs l) l.islands m.islands (refused_by r) (run_report r).islands
  pub types : Worked (refusal_in bs l) l.types m.types
  pub flags : Worked (refusal_in bs l) l.flags m.flags
  pub pairs : Worked (refusal_in bs l) l.pairs m.pairs
  pub island_pairs : Worked (refusal_in bs l) l.island_pairs m.island_pairs
  pub counts : WorkedCounts (second bs) (refusal_in bs l) l.counts m.counts
  pub island_counts : WorkedCounts (second bs) (refusal_in bs l) l.island_counts m.island_counts
  pub enabled : Worked (refusal_in bs l) l.enabled m.enabled
  pub numbers : Worked (refusal_in bs l) l.numbers m.numbers
  pub dynamic_bodies : Worked (refusal_in bs l) l.plan.dynamic_bodies m.plan.dynamic_bodies
  pub endpoints : Worked (refusal_in bs l) l.plan.endpoints m.plan.endpoints
  pub body_offsets : Worked (refusal_in bs l) l.plan.body_offsets m.plan.body_offsets
  pub body_constraints : Worked (refusal_in bs l) l.plan.body_constraints m.plan.body_constraints
  pub scratch_offsets : Worked (refusal_in bs l) l.plan.scratch_offsets m.plan.scratch_offsets
  pub constraint_colors : Worked (refusal_in bs l) l.plan.constraint_colors m.plan.constraint_colors
  pub color_stamps : Worked (refusal_in bs l) l.plan.color_stamps m.plan.color_stamps
  pub body_stamps : Worked (refusal_in bs l) l.plan.body_stamps m.plan.body_stamps
  pub color_offsets : Worked (refusal_in bs l) l.plan.color_offsets m.plan.color_offsets
  pub colored_constraints : Worked (refusal_in bs l) l.plan.colored_constraints m.plan.colored_constraints
  pub color_body_offsets : Worked (refusal_in bs l) l.plan.color_body_offsets m.plan.color_body_offsets
  pub color_bodies : Worked (refusal_in bs l) l.plan.color_bodies m.plan.color_bodies
  pub constraint_body_positions : Worked (refusal_in bs l) l.plan.constraint_body_positions m.plan.constraint_body_positions
  pub plan_counts : WorkedCounts (second bs) (refusal_in bs l) l.plan_counts m.plan_counts
