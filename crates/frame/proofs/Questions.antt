-- Questions one after another: a list that continues another asks the rest only where the first gets no "no". What question 3 says.
use Rattle.std.proofs.Common.{ℕ, suc, ◌≤◌, ◌≡◌, refl, sym, ap, ◌∙◌, Bool, true, false, ◌&&◌, cond, List, [], ◌∷◌, ◌++◌, arith, leb, ltb, eqb, eqb-true, leb-true, ltb-true, ne_eqb}
use Rattle.std.proofs.lemmas.Bool.{eqb-false}
use Rattle.std.proofs.Math.Bool.{and_assoc, and-true}
use Rattle.lists.specs.Basics.{all}
use Rattle.lists.proofs.Laws.{and_left, and_right, by_cases}
use Rattle.frame.specs.Questions.{Question, asked, few_each}

-- a question that passed
pub passed : (b : Bool) (rest k : ℕ) → cond b rest (suc k) ≡ 0 → (b ≡ true) × (rest ≡ 0)
passed true rest k e = (refl, e)
passed false rest k e = absurd (omega arith)

-- every question has a number that refuses
abbrev pub Numbered : List Question → Type 0
Numbered qs = all (λ q. ltb 0 q.number) qs ≡ true

pub asked-append : (qs rs : List Question) → Numbered qs → asked (qs ++ rs) ≡ cond (eqb (asked qs) 0) (asked rs) (asked qs)
asked-append [] rs h = refl
asked-append (q ∷ qs) rs h = by_cases q.yes
    (λ e. rw e (asked-append qs rs (and_right (ltb 0 q.number) (all (λ x. ltb 0 x.number) qs) h)))
    (λ e. rw (e, ne_eqb q.number 0 (λ z. omega (arith, ltb-true 0 q.number (and_left (ltb 0 q.number) (all (λ x. ltb 0 x.number) qs) h)))))

pub zero-cond : (n r : ℕ) → cond (eqb n 0) r n ≡ 0 → (n ≡ 0) × (r ≡ 0)
zero-cond n r e = by_cases (eqb n 0) (λ z. (eqb-true n 0 z, rw z at e)) (λ z. absurd (eqb-false n 0 z (rw z at e)))

pub asked-both : (qs rs : List Question) → Numbered qs → asked (qs ++ rs) ≡ 0 → (asked qs ≡ 0) × (asked rs ≡ 0)
asked-both qs rs h e = zero-cond (asked qs) (asked rs) (sym (asked-append qs rs h) ∙ e)

-- what a "yes" to question 3 says
pub few-each : (b m j : ℕ) → few_each b m j ≡ true → (b ≤ 4096) × (m ≤ 4096) × (j ≤ 4096)
unfolding few_each
few-each b m j e =
    let two = and_left (leb b 4096 && leb m 4096) (leb j 4096) e in
    (leb-true b 4096 (and_left (leb b 4096) (leb m 4096) two), leb-true m 4096 (and_right (leb b 4096) (leb m 4096) two), leb-true j 4096 (and_right (leb b 4096 && leb m 4096) (leb j 4096) e))

-- a test of all, with one entry more
pub all_more : (p : ℕ → Bool) (xs : List ℕ) (x : ℕ) → all p (xs ++ x ∷ []) ≡ (all p xs && p x)
all_more p [] x = and-true (p x)
all_more p (y ∷ ys) x = ap (λ (t : Bool). p y && t) (all_more p ys x) ∙ sym (and_assoc (p y) (all p ys) (p x))
