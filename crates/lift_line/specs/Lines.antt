-- A line that asks for a test lift: seed, bodies, manifolds and joints in decimal, parted by one space.
use Rattle.std.specs.Prelude.{ℕ, zero, suc, ◌+◌, ◌-◌, ◌*◌, ◌≤◌, ◌≡◌, Bool, true, ◌&&◌, cond, List, [], ◌∷◌, ◌++◌, leb, ltb, eqb, length, get_or, drop, Option, Some, None}
use Rattle.lists.specs.Basics.{all}
use Rattle.lift_line.specs.declared.Wanted.{Wanted}

-- is a byte one of 0 to 9?
abbrev pub digit : ℕ → Bool
digit x = leb 48 x && leb x 57

-- the digits that a text begins with, at most n of them, and the number that they spell behind the number v
abbrev pub digits_of : ℕ → List ℕ → List ℕ
digits_of zero xs = []
digits_of (suc n) [] = []
digits_of (suc n) (x ∷ xs) = cond (digit x) (x ∷ digits_of n xs) []

abbrev pub value_of : ℕ → List ℕ → ℕ
value_of v [] = v
value_of v (x ∷ xs) = value_of (10 * v + (x - 48)) xs

-- the field at a place: its digits, at most 19; the place after it; and its number
unfoldable pub field_at : List ℕ → ℕ → List ℕ
field_at text at = digits_of 19 (drop at text)

unfoldable pub end_of : List ℕ → ℕ → ℕ
end_of text at = at + length (field_at text at)

unfoldable pub number_at : List ℕ → ℕ → ℕ
number_at text at = value_of 0 (field_at text at)

-- where the second, third and fourth field start, each a space behind the one before
abbrev pub second : List ℕ → ℕ
second text = end_of text 0 + 1

abbrev pub third : List ℕ → ℕ
third text = end_of text (second text) + 1

abbrev pub fourth : List ℕ → ℕ
fourth text = end_of text (third text) + 1

-- a field that has digits; one that the byte `stop` follows, where `past` follows the text's end; and one that a space follows
abbrev pub written : List ℕ → ℕ → Bool
written text at = ltb at (end_of text at)

abbrev pub followed : List ℕ → ℕ → ℕ → ℕ → Bool
followed text at stop past = written text at && eqb (get_or text (end_of text at) past) stop

abbrev pub parted : List ℕ → ℕ → Bool
parted text at = followed text at 32 0

-- the text can be read: four fields, then a newline or nothing; the seed has 32 bits. What follows the newline is not looked at
unfoldable pub readable : List ℕ → Bool
readable text =
    parted text 0 && parted text (second text) && parted text (third text) && written text (fourth text)
    && eqb (get_or text (end_of text (fourth text)) 10) 10 && ltb (number_at text 0) 4294967296

-- what the text asks for
abbrev pub wanted : ℕ → ℕ → ℕ → ℕ → Wanted
wanted seed b m j = record { seed = seed; sizes = record { bodies = b; manifolds = m; joints = j } }

unfoldable pub line_of : List ℕ → Option Wanted
line_of text = cond (readable text) (Some (wanted (number_at text 0) (number_at text (second text)) (number_at text (third text)) (number_at text (fourth text)))) None

-- ---- a line that was written: what a field may be, and four of them

pub record Spelled (ds : List ℕ) : Type 0 where
  pub digits : all digit ds ≡ true
  pub some : 1 ≤ length ds
  pub few : length ds ≤ 19

abbrev pub line_text : List ℕ → List ℕ → List ℕ → List ℕ → List ℕ
line_text seed bodies manifolds joints = seed ++ 32 ∷ (bodies ++ 32 ∷ (manifolds ++ 32 ∷ (joints ++ 10 ∷ [])))
