-- What the program `generate_frame` prints for a text.
use Rattle.std.specs.Prelude.{ℕ, ◌≡◌, cond, List, eqb, length, Option, Some, None}
use Rattle.lists.specs.Basics.{over}
use Rattle.schedules.specs.Print.{refusal_line}
use Rattle.generator.specs.Draws.{generated_bytes}
use Rattle.generator.specs.Calls.{generate_refusal}
use Rattle.lift_line.specs.declared.Wanted.{Wanted}

-- a lift's file, where there is room for the longest, or its refusal as `turns` prints one
unfoldable pub lift_of : ℕ → ℕ → ℕ → ℕ → List ℕ
lift_of seed b m j = cond (eqb (generate_refusal b m j 40971) 0) (generated_bytes seed b m j) (refusal_line (generate_refusal b m j 40971))

-- a text put into the buffer `old` from place 0 on, and its length; the buffer keeps its own
pub record Printed (text old new : List ℕ) (r : ℕ) : Type 0 where
  pub buffer : new ≡ over text old
  pub long : length new ≡ length old
  pub as_long : r ≡ length text

-- what a line asks for, put into the buffer; where it can't be read the buffer is kept, and has no length
abbrev pub LiftPrinted : Option Wanted → List ℕ → List ℕ → Option ℕ → Type 0
LiftPrinted (Some w) old new r = (n : ℕ) × (r ≡ Some n) × Printed (lift_of w.seed w.sizes.bodies w.sizes.manifolds w.sizes.joints) old new n
LiftPrinted None old new r = (r ≡ None) × (new ≡ old)
