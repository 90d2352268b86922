-- Constraints counted on each body.
use Rattle.std.specs.Prelude.{ℕ, ◌+◌, ◌≤◌, ◌<◌, ◌≡◌, Bool, true, ◌&&◌, cond, List, [], ltb, eqb, length, get_or}
use Rattle.lists.specs.Basics.{all, sum_of, count}
use Rattle.frame.specs.Frames.{Constraint, frame_of, on, touches, sound, conflicts}

-- a constraint counts for body b: it touches a dynamic body of these types, and is on b
abbrev pub counts_for : List ℕ → ℕ → Constraint → Bool
counts_for ts b c = touches (frame_of ts [] [] []) c && on b c

-- constraints that can be counted into a table: they pass question 7, each body has a place, and the counts fit 16 bits
pub record Countable (ts : List ℕ) (cs : List Constraint) (counts : List ℕ) : Type 0 where
  pub sound : all (sound (length counts)) cs ≡ true
  pub long : length counts ≡ length ts
  pub fits : (b : ℕ) → b < length counts → get_or counts b 0 + count (counts_for ts b) cs ≤ 65535

-- each body's count has grown by the constraints that count for it
pub record Counted (ts : List ℕ) (cs : List Constraint) (old new : List ℕ) : Type 0 where
  pub each : (b : ℕ) → b < length old → get_or new b 0 ≡ get_or old b 0 + count (counts_for ts b) cs

-- what a body of type t with n constraints counts for: only bodies that make conflicts do
abbrev pub counted : ℕ → ℕ → ℕ
counted t n = cond (conflicts t) n 0

-- what body b gets if each of these endpoints counts this amount
abbrev pub added : ℕ → List ℕ → ℕ → ℕ
added amount ends b = sum_of (λ x. cond (eqb b x) amount 0) ends

-- endpoints that have places in the table, and their counts fit 16 bits
pub record Addable (amount : ℕ) (ends counts : List ℕ) : Type 0 where
  pub inside : all (λ b. ltb b (length counts)) ends ≡ true
  pub fits : (b : ℕ) → b < length counts → get_or counts b 0 + added amount ends b ≤ 65535

-- each body's count has grown by what it gets
pub record Added (amount : ℕ) (ends old new : List ℕ) : Type 0 where
  pub each : (b : ℕ) → b < length old → get_or new b 0 ≡ get_or old b 0 + added amount ends b
