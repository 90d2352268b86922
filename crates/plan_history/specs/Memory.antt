-- The plan's memory: what it remembers, and so answers, after any updates.
use Rattle.std.specs.Prelude.{ℕ, Bool, not, ◌&&◌, cond, List, [], ◌∷◌, eqb}
use Rattle.lists.specs.Basics.{same}
use Rattle.groups.specs.Groups.{Plan, plan_of}
use Rattle.plan_questions.specs.Plans.{update_refusal}

-- the flags and pairs that a plan remembers; a fresh plan remembers empty lists
pub record Memory : Type 0 where
  pub flags : List ℕ
  pub pairs : List ℕ

abbrev pub fresh : Memory
fresh = record { flags = []; pairs = [] }

-- equal input that passes the questions is "unchanged", other accepted input is "changed"
unfoldable pub changes : Memory → List ℕ → List ℕ → Bool → Bool
changes m flags pairs room = eqb (update_refusal flags pairs room) 0 && not (same flags m.flags && same pairs m.pairs)

-- what is remembered after an update
unfoldable pub remembered : Memory → List ℕ → List ℕ → Bool → Memory
remembered m flags pairs room = cond (changes m flags pairs room) (record { flags = flags; pairs = pairs }) m

-- the plan of what is remembered
abbrev pub plan_for : Memory → Plan
plan_for m = plan_of m.flags m.pairs

-- the input of an update, its answer (refusal or 0, and whether "changed"), and the answers to a whole list
pub record Input : Type 0 where
  pub flags : List ℕ
  pub pairs : List ℕ
  pub room : Bool

pub record Answered : Type 0 where
  pub refusal : ℕ
  pub changed : Bool

unfoldable pub answers : Memory → List Input → List Answered
answers m [] = []
answers m (u ∷ us) =
    record { refusal = update_refusal u.flags u.pairs u.room; changed = changes m u.flags u.pairs u.room }
    ∷ answers (remembered m u.flags u.pairs u.room) us
