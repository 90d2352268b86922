-- Scans of a list: one element more, the same test in other words, one filter behind another; and the first places of a rising list.
use Rattle.std.proofs.Common.{ℕ, zero, suc, ◌+◌, ◌<◌, ◌≡◌, refl, sym, ap, ◌∙◌, Bool, true, false, ◌||◌, List, [], ◌∷◌, arith, ltb, eqb, length, get_or, take, drop, take-append-drop, length-take-le, get_or-take, eqb-true, ltb-true}
use Rattle.std.proofs.lemmas.List.Folds.{list_any_more}
use Rattle.lists.specs.Basics.{any, all, filter, mem, place, rises}
use Rattle.lists.proofs.Laws.{or_left, or_right, or_cases, and_left, and_right, clashes, by_cases, not-true-false, any_append, all_in, mem_self, get_or-mem, place-lt, place_get}

pub any_next : (p : ℕ → Bool) (xs : List ℕ) (i : ℕ) → i < length xs → any p (take (i + 1) xs) ≡ (any p (take i xs) || p (get_or xs i 0))
any_next p xs i l = list_any_more p xs i 0 l

pub any-first : {A : Type 0} (p : A → Bool) (i : ℕ) (xs : List A) → any p (take i xs) ≡ true → any p xs ≡ true
any-first p i xs h = ap (any p) (sym (take-append-drop i xs)) ∙ any_append p (take i xs) (drop i xs) ∙ or_left (any p (take i xs)) (any p (drop i xs)) h

pub any_ext_in : (p q : ℕ → Bool) (xs : List ℕ) → ((x : ℕ) → mem x xs ≡ true → p x ≡ q x) → any p xs ≡ any q xs
any_ext_in p q [] h = refl
any_ext_in p q (x ∷ xs) h = rw (h x (mem_self x xs), any_ext_in p q xs (λ y m. h y (or_right (eqb y x) (mem y xs) m)))

-- the weaker of two filters adds nothing
pub filter-filter : (p q : ℕ → Bool) (xs : List ℕ) → ((x : ℕ) → q x ≡ true → p x ≡ true) → filter q (filter p xs) ≡ filter q xs
filter-filter p q [] h = refl
filter-filter p q (x ∷ xs) h =
    by_cases (p x)
    (λ e. by_cases (q x) (λ f. rw (e, f) (ap (λ (ys : List ℕ). x ∷ ys) (filter-filter p q xs h))) (λ f. rw (e, f) (filter-filter p q xs h)))
    (λ e. let f : q x ≡ false = not-true-false (q x) (λ g. clashes (p x) (h x g) e) in rw (e, f) (filter-filter p q xs h))

-- ---- a rising list
pub rises-lt : (l : List ℕ) → rises l ≡ true → (p q : ℕ) → p < q → q < length l → get_or l p 0 < get_or l q 0
rises-lt [] r p q h k = absurd (omega arith)
rises-lt (x ∷ xs) r p zero h k = absurd (omega arith)
rises-lt (x ∷ xs) r zero (suc q) h k = ltb-true x (get_or xs q 0) (all_in (ltb x) (get_or xs q 0) xs (get_or-mem xs q (omega arith)) (and_left (all (ltb x) xs) (rises xs) r))
rises-lt (x ∷ xs) r (suc p) (suc q) h k = rises-lt xs (and_right (all (ltb x) xs) (rises xs) r) p q (omega arith) (omega arith)

-- the first i are those below the one at place i
pub rises-before : (xs : List ℕ) (i s : ℕ) → rises xs ≡ true → i < length xs → mem s (take i xs) ≡ true → s < get_or xs i 0
rises-before xs i s v l h =
    let k : place s (take i xs) < i = omega (arith, place-lt s (take i xs) h, length-take-le i xs (omega arith)) in
    omega (arith, place_get s (take i xs) h, get_or-take i xs (place s (take i xs)) 0 k, rises-lt xs v (place s (take i xs)) i k l)

pub before-rises : (xs : List ℕ) (i s : ℕ) → rises xs ≡ true → i < length xs → mem s xs ≡ true → s < get_or xs i 0 → mem s (take i xs) ≡ true
before-rises [] i s v l h p = absurd (omega arith)
before-rises (x ∷ xs) zero s v l h p =
    or_cases (eqb s x) (mem s xs) h
    (λ q. absurd (omega (arith, eqb-true s x q)))
    (λ m. absurd (omega (arith, ltb-true x s (all_in (ltb x) s xs m (and_left (all (ltb x) xs) (rises xs) v)))))
before-rises (x ∷ xs) (suc i) s v l h p =
    or_cases (eqb s x) (mem s xs) h
    (λ q. or_left (eqb s x) (mem s (take i xs)) q)
    (λ m. or_right (eqb s x) (mem s (take i xs)) (before-rises xs i s (and_right (all (ltb x) xs) (rises xs) v) (omega arith) m p))
