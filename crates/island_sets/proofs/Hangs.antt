-- A root l is linked to a root w that weighs at least as much, and w's size grows by l's: the sets of w and l become one whose root is w, every other set
-- stays, and the invariant holds. A union does just that with the loser of two roots under the winner; of a root and itself nothing changes.
use Rattle.std.proofs.Common.{ℕ, ◌+◌, ◌*◌, ◌≤◌, ◌<◌, arith, ◌≡◌, refl, sym, ap, ◌∙◌, subst, Bool, true, false, cond, List, eqb, length, get_or, set, length-set, get_or-set_same, get_or-set_other, eqb-true, eq-eqb, ne_eqb}
use Rattle.std.proofs.Math.Decide.{ℕ_discrete}
use Rattle.lists.specs.Basics.{one, range}
use Rattle.lists.proofs.Laws.{by_cases, length-range, sum_one}
use Rattle.lists.proofs.Sums.{sum_ext, sum_add, sum_le}
use Rattle.island_sets.specs.Sets.{link, root_of, size_in}
use Rattle.island_sets.specs.Steps.{Weighed, Told, Sets}
use Rattle.island_sets.proofs.Links.{root_here, root_end, root_step, roots_are, link-same, link_other}
use Rattle.island_sets.proofs.Weights.{ends, told_at, told_root, told_same}

-- ---- l becomes w, and any other number stays
abbrev pub moved : ℕ → ℕ → ℕ → ℕ
moved w l z = cond (eqb z l) w z

moved_here : (w l z : ℕ) → z ≡ l → moved w l z ≡ w
moved_here w l z e = rw (eq-eqb z l e)

moved_other : (w l z : ℕ) → (z ≡ l → ⊥) → moved w l z ≡ z
moved_other w l z n = rw (ne_eqb z l n)

one_joined : (w l z : ℕ) → (w ≡ l → ⊥) → one (eqb (moved w l z) w) ≡ one (eqb z w) + one (eqb z l)
one_joined w l z n = by_cases (eqb z l)
    (λ e. rw (e, eq-eqb w w refl, ne_eqb z w (λ q. n (sym q ∙ eqb-true z l e))))
    (λ e. rw e (omega arith))

one_other : (w l r z : ℕ) → (r ≡ w → ⊥) → (r ≡ l → ⊥) → one (eqb (moved w l z) r) ≡ one (eqb z r)
one_other w l r z nw nl = by_cases (eqb z l)
    (λ e. rw (e, ne_eqb w r (λ q. nw (sym q)), ne_eqb z r (λ q. nl (sym q ∙ eqb-true z l e))))
    (λ e. rw e)

-- ---- sizes of sets
module _ (n : ℕ) (f : ℕ → ℕ) where
  size_joined : (w l : ℕ) → (w ≡ l → ⊥) → size_in n (λ x. moved w l (f x)) w ≡ size_in n f w + size_in n f l
  unfolding size_in
  size_joined w l e = sum_ext (λ y. one (eqb (moved w l (f y)) w)) (λ y. one (eqb (f y) w) + one (eqb (f y) l)) (range n) (λ y. one_joined w l (f y) e)
      ∙ sum_add (λ y. one (eqb (f y) w)) (λ y. one (eqb (f y) l)) (range n)

  size_other : (w l r : ℕ) → (r ≡ w → ⊥) → (r ≡ l → ⊥) → size_in n (λ x. moved w l (f x)) r ≡ size_in n f r
  unfolding size_in
  size_other w l r nw nl = sum_ext (λ y. one (eqb (moved w l (f y)) r)) (λ y. one (eqb (f y) r)) (range n) (λ y. one_other w l r (f y) nw nl)

  pub size_most : (r : ℕ) → size_in n f r ≤ n
  unfolding size_in
  size_most r = omega (arith, sum_le (λ y. one (eqb (f y) r)) (λ y. 1) (range n) (λ y. most (eqb (f y) r)), sum_one (range n), length-range 0 n)
    where
      most : (t : Bool) → one t ≤ 1
      most true = omega arith
      most false = omega arith

-- ---- one root under another
module _ (p s : List ℕ) (h : Sets p s) (w l : ℕ) (kw : w < length p) (kl : l < length p) (ew : root_of p w ≡ w) (el : root_of p l ≡ l)
    (ne : w ≡ l → ⊥) (le : get_or s l 0 ≤ get_or s w 0) where
  abbrev total : ℕ
  total = get_or s w 0 + get_or s l 0

  total_is : total ≡ size_in (length p) (λ x. moved w l (root_of p x)) w
  total_is = omega (arith, told_root p s h w kw ew, told_root p s h l kl el, size_joined (length p) (root_of p) w l ne)

  pub total-most : total ≤ length p
  total-most = omega (arith, total_is, size_most (length p) (λ x. moved w l (root_of p x)) w)

  weight_top : get_or (set s w total) w 0 ≡ total
  weight_top = get_or-set_same s w total 0 (omega (arith, h.weighed.long))

  weight_other : (x : ℕ) → (x ≡ w → ⊥) → get_or (set s w total) x 0 ≡ get_or s x 0
  weight_other x n = get_or-set_other s w x total 0 n

  weight_grows : (x : ℕ) → get_or s x 0 ≤ get_or (set s w total) x 0
  weight_grows x = go (ℕ_discrete x w)
    where
      go : Dec (x ≡ w) → get_or s x 0 ≤ get_or (set s w total) x 0
      go (yes e) = subst (λ (y : ℕ). get_or s y 0 ≤ get_or (set s w total) y 0) (sym e) (omega (arith, weight_top))
      go (no n) = omega (arith, weight_other x n)

  link_top : link p w ≡ w
  link_top = subst (λ (x : ℕ). link p x ≡ x) ew (root_end p (ends p s h.weighed) w)

  halves_at : (x : ℕ) → (link (set p l w) x ≡ x → ⊥) → Dec (x ≡ l) → 2 * get_or (set s w total) x 0 ≤ get_or (set s w total) (link (set p l w) x) 0
  halves_at x n (yes e) = subst (λ (y : ℕ). 2 * get_or (set s w total) y 0 ≤ get_or (set s w total) (link (set p l w) y) 0) (sym e)
      (omega (arith, ap (λ (y : ℕ). get_or (set s w total) y 0) (link-same p l w kl), weight_top, weight_other l (λ q. ne (sym q)), le))
  halves_at x n (no m) =
      let moves : link p x ≡ x → ⊥ = λ e. n (link_other p l w x m ∙ e) in
      let low : x ≡ w → ⊥ = λ e. moves (ap (link p) e ∙ link_top ∙ sym e) in
      omega (arith, ap (λ (y : ℕ). get_or (set s w total) y 0) (link_other p l w x m), weight_other x low, h.weighed.halves x moves, weight_grows (link p x))

  inside_at : (x : ℕ) → x < length p → Dec (x ≡ l) → link (set p l w) x < length (set p l w)
  inside_at x k (yes e) = omega (arith, length-set p l w, ap (link (set p l w)) e, link-same p l w kl)
  inside_at x k (no n) = omega (arith, length-set p l w, link_other p l w x n, h.weighed.inside x k)

  most-at : (x : ℕ) → Dec (x ≡ w) → get_or (set s w total) x 0 ≤ length p
  most-at x (yes e) = omega (arith, ap (λ (y : ℕ). get_or (set s w total) y 0) e, weight_top, total-most)
  most-at x (no n) = omega (arith, weight_other x n, h.weighed.most x)

  weighed_hung : Weighed (set p l w) (set s w total)
  weighed_hung = record {
    long = length-set s w total ∙ h.weighed.long ∙ sym (length-set p l w);
    inside = λ x k. inside_at x (omega (arith, k, length-set p l w)) (ℕ_discrete x l);
    some = λ x k. omega (arith, weight_grows x, h.weighed.some x (omega (arith, k, length-set p l w)));
    most = λ x. omega (arith, most-at x (ℕ_discrete x w), length-set p l w);
    halves = λ x n. halves_at x n (ℕ_discrete x l);
  }

  pub roots_hung : root_of (set p l w) ≡ (λ x. moved w l (root_of p x))
  roots_hung = roots_are (set p l w) (ends (set p l w) (set s w total) weighed_hung) (λ x. moved w l (root_of p x))
      (λ x e. fixed x e (ℕ_discrete x l)) (λ x. kept x (ℕ_discrete x l))
    where
      fixed : (x : ℕ) → link (set p l w) x ≡ x → Dec (x ≡ l) → moved w l (root_of p x) ≡ x
      fixed x e (yes q) = absurd (ne (sym (link-same p l w kl) ∙ ap (link (set p l w)) (sym q) ∙ e ∙ q))
      fixed x e (no n) = ap (moved w l) (root_here p x (sym (link_other p l w x n) ∙ e)) ∙ moved_other w l x n

      kept : (x : ℕ) → Dec (x ≡ l) → moved w l (root_of p (link (set p l w) x)) ≡ moved w l (root_of p x)
      kept x (yes q) = subst (λ (y : ℕ). moved w l (root_of p (link (set p l w) y)) ≡ moved w l (root_of p y)) (sym q)
          (ap (λ (y : ℕ). moved w l (root_of p y)) (link-same p l w kl) ∙ moved_other w l (root_of p w) (λ e. ne (sym ew ∙ e)) ∙ ew ∙ sym (moved_here w l (root_of p l) el))
      kept x (no n) = ap (moved w l) (ap (root_of p) (link_other p l w x n) ∙ root_step p (ends p s h.weighed) x)

  told_hung : Told (length p) (λ x. moved w l (root_of p x)) (set s w total)
  told_hung b k = go (ℕ_discrete (root_of p b) l) (ℕ_discrete (root_of p b) w)
    where
      SizeAt : ℕ → Type 0
      SizeAt z = get_or (set s w total) z 0 ≡ size_in (length p) (λ x. moved w l (root_of p x)) z

      go : Dec (root_of p b ≡ l) → Dec (root_of p b ≡ w) → SizeAt (moved w l (root_of p b))
      go (yes e) d = subst SizeAt (sym (moved_here w l (root_of p b) e)) (weight_top ∙ total_is)
      go (no n) (yes e) = subst SizeAt (sym (moved_other w l (root_of p b) n ∙ e)) (weight_top ∙ total_is)
      go (no n) (no m) = subst SizeAt (sym (moved_other w l (root_of p b) n))
          (weight_other (root_of p b) m ∙ told_at p s h b k ∙ sym (size_other (length p) (root_of p) w l (root_of p b) m n))

  pub sets_hung : Sets (set p l w) (set s w total)
  sets_hung = record {
    few = omega (arith, h.few, length-set p l w);
    weighed = weighed_hung;
    told = told_same (length p) (length (set p l w)) (λ x. moved w l (root_of p x)) (root_of (set p l w)) (set s w total) (length-set p l w) roots_hung told_hung;
  }
