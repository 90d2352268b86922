-- Constraints that have a count each: the one at place i has that many endpoints behind those of the i before it, which are
-- `end_count (take i cs)`; how many constraints they are, and what their counts and endpoints are where questions 5 and 7 pass.
use Rattle.std.proofs.Common.{ℕ, zero, suc, ◌+◌, ◌-◌, ◌*◌, ◌≤◌, ◌<◌, ◌≡◌, refl, ap, ◌∙◌, Bool, true, ◌&&◌, List, [], ◌∷◌, arith, add-one, leb, ltb, eqb, length, get_or, take, drop, drop_of_length-le, drop-cons, drop-drop, leb-true}
use Rattle.std.proofs.Math.Seq.{drop-nil}
use Rattle.lists.specs.Basics.{all, distinct}
use Rattle.lists.proofs.Laws.{and_left, and_right}
use Rattle.frame.specs.Frames.{Constraint, counted, counted_of, joints_of, counts_known, end_count, fits, sound}

-- ---- where endpoints stand

-- those of the first i constraints, and those of the others, are all
pub ends-parts : (cs : List ℕ) (i : ℕ) → end_count (take i cs) + end_count (drop i cs) ≡ end_count cs
ends-parts [] zero = refl
ends-parts [] (suc i) = refl
ends-parts (c ∷ cs) zero = omega arith
ends-parts (c ∷ cs) (suc i) = omega (arith, ends-parts cs i)

-- one more constraint
one_more : (cs : List ℕ) (i : ℕ) → end_count (take (suc i) cs) ≡ end_count (take i cs) + get_or cs i 0
one_more [] zero = refl
one_more [] (suc i) = refl
one_more (c ∷ cs) zero = omega arith
one_more (c ∷ cs) (suc i) = omega (arith, one_more cs i)

pub ends-next : (cs : List ℕ) (i : ℕ) → end_count (take (i + 1) cs) ≡ end_count (take i cs) + get_or cs i 0
ends-next cs i = rw add-one (one_more cs i)

-- the endpoints of the constraint at place i are there
pub ends_inside : (cs bs : List ℕ) (i : ℕ) → end_count cs ≤ length bs → end_count (take i cs) + get_or cs i 0 ≤ length bs
ends_inside cs bs i h = omega (arith, ends-next cs i, ends-parts cs (i + 1))

-- ---- the constraints

-- the constraint at place i
abbrev pub counted_at : List ℕ → List ℕ → List ℕ → ℕ → Constraint
counted_at cs bs es i = record { ends = take (get_or cs i 0) (drop (end_count (take i cs)) bs); live = eqb (get_or es i 1) 1 }

pub counted-length : (cs bs es : List ℕ) → length (counted_of cs bs es) ≡ length cs
counted-length [] bs es = refl
counted-length (c ∷ cs) bs [] = ap suc (counted-length cs (drop c bs) [])
counted-length (c ∷ cs) bs (e ∷ es) = ap suc (counted-length cs (drop c bs) es)

-- those from place i on
pub counted-drop : (cs bs es : List ℕ) (i : ℕ) → drop i (counted_of cs bs es) ≡ counted_of (drop i cs) (drop (end_count (take i cs)) bs) (drop i es)
counted-drop [] bs es zero = refl
counted-drop [] bs es (suc i) = refl
counted-drop (c ∷ cs) bs es zero = refl
counted-drop (c ∷ cs) bs [] (suc i) = rw drop-nil at (counted-drop cs (drop c bs) [] i) ∙ ap (λ (l : List ℕ). counted_of (drop i cs) l []) (drop-drop (end_count (take i cs)) c bs)
counted-drop (c ∷ cs) bs (e ∷ es) (suc i) = counted-drop cs (drop c bs) es i ∙ ap (λ (l : List ℕ). counted_of (drop i cs) l (drop i es)) (drop-drop (end_count (take i cs)) c bs)

pub counted-at : (cs bs es : List ℕ) (i : ℕ) (d : Constraint) → i < length cs → get_or (counted_of cs bs es) i d ≡ counted_at cs bs es i
counted-at [] bs es i d h = absurd (omega arith)
counted-at (c ∷ cs) bs [] zero d h = refl
counted-at (c ∷ cs) bs (e ∷ es) zero d h = refl
counted-at (c ∷ cs) bs [] (suc i) d h = counted-at cs (drop c bs) [] i d (omega arith) ∙ ap (λ (l : List ℕ). record { ends = take (get_or cs i 0) l; live = true }) (drop-drop (end_count (take i cs)) c bs)
counted-at (c ∷ cs) bs (e ∷ es) (suc i) d h = counted-at cs (drop c bs) es i d (omega arith) ∙ ap (λ (l : List ℕ). record { ends = take (get_or cs i 0) l; live = eqb (get_or es i 1) 1 }) (drop-drop (end_count (take i cs)) c bs)

-- the next constraint of a loop, whose endpoints are cut out from k up to k + c, and the rest
pub counted-next : (cs bs es : List ℕ) (k i c : ℕ) (live : Bool) → i < length cs → k ≡ end_count (take i cs) → c ≡ get_or cs i 0 → live ≡ eqb (get_or es i 1) 1
    → drop i (counted_of cs bs es) ≡ record { ends = take (k + c - k) (drop k bs); live = live } ∷ drop (i + 1) (counted_of cs bs es)
counted-next cs bs es k i c live h ek ec el =
    let part : k + c - k ≡ c = omega arith in
    rw (part, ek, ec, el, add-one i)
    (drop-cons (counted_of cs bs es) i (counted_at cs bs es i) (omega (arith, counted-length cs bs es))
    ∙ ap (λ (x : Constraint). x ∷ drop (suc i) (counted_of cs bs es)) (counted-at cs bs es i (counted_at cs bs es i) h))

-- and none is left behind the last
pub counted-end : (cs bs es : List ℕ) (i : ℕ) → length cs ≤ i → drop i (counted_of cs bs es) ≡ []
counted-end cs bs es i h = drop_of_length-le (counted_of cs bs es) (omega (arith, counted-length cs bs es))

-- joints by counts that question 4 passes; where there are none, there is no joint
pub joints-counted : (cs bs es : List ℕ) → end_count cs ≡ length bs → joints_of cs bs es ≡ counted_of cs bs es
joints-counted [] [] es h = refl
joints-counted [] (b ∷ bs) es h = absurd (omega arith)
joints-counted (c ∷ cs) bs es h = refl

-- ---- counts that pass question 5
pub known-at : (cs : List ℕ) (i : ℕ) → counts_known cs ≡ true → i < length cs → (2 ≤ get_or cs i 0) × (get_or cs i 0 ≤ 4)
known-at [] i e h = absurd (omega arith)
known-at (c ∷ cs) zero e h = let k = and_left (counted c) (counts_known cs) e in (leb-true 2 c (and_left (leb 2 c) (leb c 4) k), leb-true c 4 (and_right (leb 2 c) (leb c 4) k))
known-at (c ∷ cs) (suc i) e h = known-at cs i (and_right (counted c) (counts_known cs) e) (omega arith)

-- they make two to four endpoints a constraint
pub known-many : (cs : List ℕ) → counts_known cs ≡ true → (2 * length cs ≤ end_count cs) × (end_count cs ≤ 4 * length cs)
known-many [] e = (omega arith, omega arith)
known-many (c ∷ cs) e =
    let k = known-at (c ∷ cs) 0 e (omega arith) in
    let r = known-many cs (and_right (counted c) (counts_known cs) e) in
    (omega arith, omega arith)

-- and so at most 32,768 for 8,192 constraints
pub known-few : (cs : List ℕ) → counts_known cs ≡ true → length cs ≤ 8192 → end_count cs ≤ 32768
known-few cs e few = omega (arith, (known-many cs e).1, few)

-- ---- endpoints that pass question 7
pub record Fitting (n : ℕ) (bs : List ℕ) : Type 0 where
  pub least : 2 ≤ length bs
  pub most : length bs ≤ 4
  pub apart : distinct bs ≡ true
  pub inside : all (λ b. ltb b n) bs ≡ true

pub fits-parts : (n : ℕ) (bs : List ℕ) → fits n bs ≡ true → Fitting n bs
unfolding fits
fits-parts n bs e =
    let size = leb 2 (length bs) && leb (length bs) 4 in
    let three = and_left (size && distinct bs) (all (λ b. ltb b n) bs) e in
    let two = and_left size (distinct bs) three in
    record {
      least = leb-true 2 (length bs) (and_left (leb 2 (length bs)) (leb (length bs) 4) two);
      most = leb-true (length bs) 4 (and_right (leb 2 (length bs)) (leb (length bs) 4) two);
      apart = and_right size (distinct bs) three;
      inside = and_right (size && distinct bs) (all (λ b. ltb b n) bs) e;
    }

-- those of a live constraint do
pub sound-fits : (n : ℕ) (c : Constraint) → c.live ≡ true → sound n c ≡ true → Fitting n c.ends
unfolding sound
sound-fits n c e s = fits-parts n c.ends (rw e at s)
