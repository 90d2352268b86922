-- The questions of a call in order: the first "no" of questions 3 to 6 refuses; where there is none, question 7 decides.
use Rattle.std.proofs.Common.{ℕ, ◌≤◌, arith, ◌≡◌, refl, sym, ap, ◌∙◌, Bool, true, false, cond, List, [], ◌∷◌, ◌++◌, eqb, eq-eqb, ne_eqb}
use Rattle.frame.specs.Questions.{Question, question, asked}
use Rattle.frame.proofs.Questions.{passed, asked-append}

-- the answers to questions 3 to 7
module _ (q3 q4 q5 q6 q7 : Bool) where
  abbrev questions : List Question
  questions = question 3 q3 ∷ question 4 q4 ∷ question 5 q5 ∷ question 6 q6 ∷ []

  abbrev pub early : ℕ
  early = asked questions

  abbrev pub refused : ℕ
  refused = asked (questions ++ question 7 q7 ∷ [])

  -- ---- where questions 3 to 6 all got a "yes"
  pub record AllYes : Type 0 where
    pub three : q3 ≡ true
    pub four : q4 ≡ true
    pub five : q5 ≡ true
    pub six : q6 ≡ true

  pub all_yes : early ≡ 0 → AllYes
  all_yes e =
      let a = passed q3 _ 2 e in
      let b = passed q4 _ 3 a.1 in
      let c = passed q5 _ 4 b.1 in
      record { three = a.0; four = b.0; five = c.0; six = (passed q6 0 5 c.1).0 }

  -- none of them is question 7
  first_of : (a b c d : Bool) → asked (question 3 a ∷ question 4 b ∷ question 5 c ∷ question 6 d ∷ []) ≤ 6
  first_of false b c d = omega arith
  first_of true false c d = omega arith
  first_of true true false d = omega arith
  first_of true true true false = omega arith
  first_of true true true true = omega arith

  pub early_below : early ≡ 7 → ⊥
  early_below e = omega (arith, first_of q3 q4 q5 q6)

  -- ---- and then question 7
  in_order : refused ≡ cond (eqb early 0) (cond q7 0 7) early
  in_order = asked-append questions (question 7 q7 ∷ []) refl

  pub refused-early : (k : ℕ) → k ≡ early → (k ≡ 0 → ⊥) → k ≡ refused
  refused-early k e n = e ∙ sym (in_order ∙ ap (λ (t : Bool). cond t (cond q7 0 7) early) (ne_eqb early 0 (λ z. n (e ∙ z))))

  pub refused_late : early ≡ 0 → cond q7 0 7 ≡ refused
  refused_late e = sym (in_order ∙ ap (λ (t : Bool). cond t (cond q7 0 7) early) (eq-eqb early 0 e))
