-- Every island has a constraint, since its lowest body is on one, and that constraint has the body's label; every other label is none. So
-- the labels of an accepted frame can be sorted by island; after a refusal there are none.
use Rattle.std.proofs.Common.{ℕ, zero, suc, ◌≤◌, ◌<◌, ◌≡◌, refl, sym, ap, ◌∙◌, Bool, true, false, ◌||◌, List, [], ◌∷◌, map, ⊎_elim, arith, ltb, eqb, length, replicate, eqb-true, eq-eqb, ltb-true, ltb-false, lt-ltb}
use mathlib.Core.List.{Memᴰ}
use Rattle.std.proofs.Math.ListN.{length-map, length-replicate}
use Rattle.std.proofs.lemmas.Bool.{eqb-false}
use mathlib.Core.List.Memᴰ
use Rattle.lists.specs.Basics.{one, any, all, count, range, mem}
use Rattle.lists.proofs.Laws.{by_cases, or_cases, or_left, or_right, and_left, and_right, clashes, all_map}
use Rattle.frame.specs.Frames.{Constraint, Frame, constraints, dynamic, on, none}
use Rattle.connected_sets.specs.Islands.{island_count, leads, in_island, lowest, body_label, label}
use Rattle.lists.proofs.Counts.{count_next}
use Rattle.connected_sets.proofs.Theorem.{label-each, label_below, islands-few, island_touches}
use Rattle.schedules.proofs.Accepted.{Accepted}
use Rattle.island_numbers.specs.Numbers.{Labels}

-- ---- lists of constraints
module _ {A : Type 0} where
  all_listed : (p : A → Bool) (xs : List A) → ((x : A) → Memᴰ x xs → p x ≡ true) → all p xs ≡ true
  all_listed p [] h = refl
  all_listed p (x ∷ xs) h = rw (h x (Memᴰ.head refl)) (all_listed p xs (λ y m. h y (Memᴰ.tail m)))

  any_listed : (p : A → Bool) (xs : List A) → any p xs ≡ true → (x : A) × Memᴰ x xs × (p x ≡ true)
  any_listed p [] h = clashes false h refl
  any_listed p (x ∷ xs) h = or_cases (p x) (any p xs) h (λ e. (x, Memᴰ.head refl, e)) (λ k. let o = any_listed p xs k in (o.0, Memᴰ.tail o.1, o.2))

  mem_listed : (g : A → ℕ) (x : A) (xs : List A) → Memᴰ x xs → mem (g x) (map g xs) ≡ true
  mem_listed g x [] m = elim m [ ]
  mem_listed g x (y ∷ ys) m =
      ⊎_elim
      (λ e. or_left (eqb (g x) (g y)) (mem (g x) (map g ys)) (eq-eqb (g x) (g y) (ap g e)))
      (λ k. or_right (eqb (g x) (g y)) (mem (g x) (map g ys)) (mem_listed g x ys k))
      (Memᴰ.cases_cons m)

-- the number that passes with so many before it
count_find : (p : ℕ → Bool) (i n : ℕ) → i < count p (range n) → (b : ℕ) × (p b ≡ true) × (count p (range b) ≡ i)
count_find p i zero h = absurd (omega arith)
count_find p i (suc n) h = by_cases (ltb i (count p (range n)))
    (λ e. count_find p i n (ltb-true i (count p (range n)) e))
    (λ e. by_cases (p n)
    (λ t. (n, t, omega (arith, count_next p n, ap one t, ltb-false i (count p (range n)) e)))
    (λ t. absurd (omega (arith, count_next p n, ap one t, ltb-false i (count p (range n)) e))))

-- ---- the labels of a frame

module _ (f : Frame) where
  island_listed : (i : ℕ) → i < island_count f → mem i (map (label f) (constraints f)) ≡ true
  unfolding island_count leads in_island body_label
  island_listed i h =
      let o = count_find (leads f) i (length f.types) h in
      let b = o.0 in
      let inside = and_left (in_island f b) (eqb (lowest f b) b) o.1 in
      let low : lowest f b ≡ b = eqb-true (lowest f b) b (and_right (in_island f b) (eqb (lowest f b) b) o.1) in
      let c = any_listed (on b) (constraints f) (and_right (dynamic f b) (any (on b) (constraints f)) inside) in
      let number : body_label f b ≡ i = rw (inside, low) o.2 in
      let e : label f c.0 ≡ i = label-each f c.0 b c.1 c.2 (and_left (dynamic f b) (any (on b) (constraints f)) inside) ∙ number in
      ap (λ (n : ℕ). mem n (map (label f) (constraints f))) (sym e) ∙ mem_listed (label f) c.0 (constraints f) c.1

  label-known : (c : Constraint) → Memᴰ c (constraints f) → (ltb (label f c) (island_count f) || eqb (label f c) none) ≡ true
  label-known c m = by_cases (eqb (label f c) none)
      (λ e. or_right (ltb (label f c) (island_count f)) (eqb (label f c) none) e)
      (λ e. or_left (ltb (label f c) (island_count f)) (eqb (label f c) none) (lt-ltb (label f c) (island_count f) (label_below f c m (island_touches f c (eqb-false (label f c) none e)))))

  pub frame_labels : {counted : Bool} → Accepted counted f → Labels (island_count f) (map (label f) (constraints f))
  frame_labels ok = record {
    few = omega (arith, length-map (constraints f) (label f), ok.few_constraints);
    low = omega (arith, islands-few f, ok.few_bodies);
    known = all_map (λ l. ltb l (island_count f) || eqb l none) (label f) (constraints f) ∙ all_listed (λ c. ltb (label f c) (island_count f) || eqb (label f c) none) (constraints f) label-known;
    each = island_listed;
  }

-- ---- no islands
all_none : (n : ℕ) → all (λ l. ltb l 0 || eqb l none) (replicate n none) ≡ true
all_none zero = refl
all_none (suc n) = all_none n

pub none-labels : (n : ℕ) → n ≤ 8192 → Labels 0 (replicate n none)
none-labels n h = record { few = omega (arith, length-replicate n none); low = omega arith; known = all_none n; each = λ i l. absurd (omega arith) }
