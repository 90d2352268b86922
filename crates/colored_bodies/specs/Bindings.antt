-- Bindings and takes.
use Rattle.std.specs.Prelude.{ℕ, ◌-◌, ◌≤◌, ◌≡◌, Bool, true, ◌&&◌, cond, List, [], ◌∷◌, ◌++◌, map, leb, ltb, eqb, length, get_or, set, replicate}
use Rattle.lists.specs.Basics.{all, distinct, rises, sorted}
use Rattle.frame.specs.Frames.{flag_of, counted}
use Rattle.frame.specs.Questions.{question, asked, types_known}
use Rattle.colored_bodies.specs.declared.BodyBinding.{BodyBinding}
use Rattle.colored_bodies.specs.declared.Handed.{Handed}

-- ---- binding

-- question 8: the list rises strictly, and its last entry is below n
abbrev pub last_below : ℕ → List ℕ → Bool
last_below n [] = true
last_below n (x ∷ []) = ltb x n
last_below n (x ∷ y ∷ ys) = last_below n (y ∷ ys)

unfoldable pub bind_refusal : List ℕ → List ℕ → ℕ
bind_refusal types bs = asked
    (question 3 (leb (length types) 4096)
    ∷ question 5 (types_known types)
    ∷ question 8 (rises bs && last_below (length types) bs)
    ∷ [])

-- types that pass questions 3 and 5: a bind of them asks 8 alone
abbrev pub Known : List ℕ → Type 0
Known types = (length types ≤ 4096) × (types_known types ≡ true)

-- a body that makes conflicts is held (1), any other read-only (0)
abbrev pub mark_of : List ℕ → ℕ → ℕ
mark_of types b = flag_of (get_or types b 0)

-- 4,096 places; those past the list hold 0
unfoldable pub padded : List ℕ → List ℕ
padded xs = xs ++ replicate (4096 - length xs) 0

unfoldable pub bound_of : List ℕ → List ℕ → BodyBinding
bound_of types bs = record { bodies = padded bs; marks = padded (map (mark_of types) bs); count = length bs }

-- a refused bind answers an empty binding
unfoldable pub bind_of : List ℕ → List ℕ → BodyBinding
bind_of types bs = cond (eqb (bind_refusal types bs) 0) (bound_of types bs) (bound_of [] [])

-- ---- takes

-- question 9: the positions are different, and all below the binding's count and 4,096
unfoldable pub placed : ℕ → List ℕ → Bool
placed count ps = distinct ps && all (λ p. ltb p count && ltb p 4096) ps

-- a place is read-only or still held
abbrev pub free : List ℕ → ℕ → Bool
free marks p = leb (get_or marks p 0) 1

-- a held place becomes taken (2); any other keeps its mark
unfoldable pub spend : List ℕ → ℕ → List ℕ
spend marks p = cond (eqb (get_or marks p 0) 1) (set marks p 2) marks

-- the places are taken one by one as listed: k refuses at the first, 11 at a later one
unfoldable pub refusal_from : ℕ → List ℕ → List ℕ → ℕ
refusal_from k marks [] = 0
refusal_from k marks (p ∷ ps) = cond (free marks p) (refusal_from 11 (spend marks p) ps) k

-- and those before the refused one stay taken
unfoldable pub marks_from : List ℕ → List ℕ → List ℕ
marks_from marks [] = marks
marks_from marks (p ∷ ps) = cond (free marks p) (marks_from (spend marks p) ps) marks

-- questions 5 (two to four positions are asked for) and 9
abbrev pub ask_refusal : ℕ → List ℕ → ℕ
ask_refusal count ps = asked (question 5 (counted (length ps)) ∷ question 9 (placed count ps) ∷ [])

-- questions 5, 9, 10 for the lowest position, 11 for a higher one
unfoldable pub take_refusal : BodyBinding → List ℕ → ℕ
take_refusal b ps = cond (eqb (ask_refusal b.count ps) 0) (refusal_from 10 b.marks (sorted ps)) (ask_refusal b.count ps)

unfoldable pub take_marks : BodyBinding → List ℕ → List ℕ
take_marks b ps = cond (eqb (ask_refusal b.count ps) 0) (marks_from b.marks (sorted ps)) b.marks

-- a body as a take answers it
abbrev pub handed_at : BodyBinding → ℕ → Handed
handed_at b p = record { body = get_or b.bodies p 0; dynamic = eqb (get_or b.marks p 0) 1 }

-- what a take of these positions does: its refusal or 0, the bodies handed in the order asked, the binding after it
pub record Taking : Type 0 where
  pub refusal : ℕ
  pub handed : List Handed
  pub after : BodyBinding

unfoldable pub take_of : BodyBinding → List ℕ → Taking
take_of b ps = record {
  refusal = take_refusal b ps;
  handed = cond (eqb (take_refusal b ps) 0) (map (handed_at b) ps) [];
  after = record { bodies = b.bodies; marks = take_marks b ps; count = b.count };
}
