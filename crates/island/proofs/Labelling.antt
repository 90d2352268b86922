-- The labels of constraints. Of a live constraint's bodies the dynamic ones have its island, and any other has none, which is above every island:
-- so the least of their labels is the constraint's.
use Rattle.std.proofs.Common.{ℕ, ◌≤◌, arith, ◌≡◌, refl, ap, ◌∙◌, Bool, true, false, ◌&&◌, cond, List, [], ◌∷◌, map, eqb, length, get_or}
use mathlib.Core.List.{Memᴰ}
use Rattle.lists.specs.Basics.{any, mem, filter}
use Rattle.lists.proofs.Laws.{and_both, or_right, by_cases, mem_self}
use Rattle.frame.specs.Frames.{Constraint, Frame, constraints, dynamic, on, touches, none}
use Rattle.island_labels.specs.Labels.{least, label_by}
use Rattle.connected_sets.specs.Islands.{in_island, body_label, label}
use Rattle.connected_sets.proofs.Theorem.{label-each, label_below, islands-few}

module _ (f : Frame) (few : length f.types ≤ 4096) (l : List ℕ) (bodies : (x : ℕ) → get_or l x none ≡ body_label f x) (c : Constraint) (listed : Memᴰ c (constraints f)) (live : c.live ≡ true) where
  still_none : (x : ℕ) → dynamic f x ≡ false → body_label f x ≡ none
  unfolding body_label in_island
  still_none x d = rw d

  label-le : label f c ≤ none
  unfolding label
  label-le = by_cases (touches f c) (λ t. omega (arith, label_below f c listed t, islands-few f)) (λ t. rw t (omega arith))

  between : (t : Bool) (v : ℕ) → v ≤ none → (v ≤ cond t v none) × (cond t v none ≤ none)
  between true v h = omega arith
  between false v h = omega arith

  least_is : (xs : List ℕ) → ((x : ℕ) → mem x xs ≡ true → mem x c.ends ≡ true) → least l xs ≡ cond (any (dynamic f) xs) (label f c) none
  unfolding on
  least_is [] sub = refl
  least_is (x ∷ xs) sub =
      let more = least_is xs (λ y m. sub y (or_right (eqb y x) (mem y xs) m)) in
      let range = between (any (dynamic f) xs) (label f c) label-le in
      by_cases (dynamic f x)
      (λ d. rw d (omega (arith, bodies x, label-each f c x listed (and_both c.live (mem x c.ends) live (sub x (mem_self x xs))) d)))
      (λ d. rw d (omega (arith, bodies x, still_none x d)))

once : (u v : Bool) (x y : ℕ) → u ≡ true → cond v (cond (u && v) x y) y ≡ cond (u && v) x y
once u true x y e = refl
once u false x y e = rw e

pub label_is : (f : Frame) → length f.types ≤ 4096 → (l : List ℕ) → ((x : ℕ) → get_or l x none ≡ body_label f x) → (c : Constraint) → Memᴰ c (constraints f) → label_by l c ≡ label f c
unfolding label touches
label_is f few l bodies c m = by_cases c.live
    (λ e.
    ap (λ (t : Bool). cond t (least l c.ends) none) e
    ∙ least_is f few l bodies c m e c.ends (λ x h. h)
    ∙ once c.live (any (dynamic f) c.ends) (body_label f (get_or (filter (dynamic f) c.ends) 0 0)) none e)
    (λ e. rw e)

-- the labels of constraints that a frame has
pub labels_are : (f : Frame) → length f.types ≤ 4096 → (l : List ℕ) → ((x : ℕ) → get_or l x none ≡ body_label f x) → (cs : List Constraint) → ((c : Constraint) → Memᴰ c cs → Memᴰ c (constraints f)) → map (label_by l) cs ≡ map (label f) cs
labels_are f few l bodies [] sub = refl
labels_are f few l bodies (c ∷ cs) sub = rw (label_is f few l bodies c (sub c (Memᴰ.head refl)), labels_are f few l bodies cs (λ d m. sub d (Memᴰ.tail m)))
