-- A constraint as its list lends it, and what an iterator over constraints gives.
use Rattle.std.specs.Prelude.{◌≡◌, List, Option}
use Rattle.std.specs.Iterator.{Count, YieldsFirstBy, item_count}
use Rattle.frame.specs.declared.constraints.Lent.{Lent}
use Rattle.frame.specs.Frames.{Constraint}

abbrev pub lent : Lent → Constraint
lent c = record { ends = c.ends.now; live = c.live }

-- an iterator that may always be asked gives the constraints that are left, one after another
pub record GivesLeft {S : Type 0} (left : S → List Constraint) (can : S → Type 0) (gives : S → Option Lent → S → Type 0) (remaining : S → Count) : Type 0 where
  pub ready : (s : S) → can s
  pub first : (s : S) (r : Option Lent) (t : S) → gives s r t → YieldsFirstBy lent left s r t
  pub ends : (s : S) → remaining s ≡ item_count left s
