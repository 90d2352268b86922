-- The label of one constraint.
use Rattle.std.proofs.Common.{ℕ, ◌+◌, ◌≤◌, ◌<◌, min, arith, add-one, ◌≡◌, ap, Bool, true, List, [], ◌∷◌, ltb, length, get_or, drop, drop-cons, ltb-true, drop_of_length-le}
use Rattle.lists.specs.Basics.{all}
use Rattle.lists.proofs.Laws.{get_or-any, all_in, get_or-mem}
use Rattle.frame.specs.Frames.{Constraint, sound, none, constraint}
use Rattle.frame.specs.declared.constraints.Lent.{Lent}
use Rattle.frame.specs.Constraints.{lent}
use Rattle.frame.proofs.Counted.{sound-fits}
use Rattle.island_labels.specs.Labels.{least, label_by}

-- ---- one constraint
abbrev pub tied : Bool → List ℕ → Constraint
tied live ends = record { ends = ends; live = live }

pub body_in : (n : ℕ) (bs : List ℕ) (i : ℕ) → all (λ b. ltb b n) bs ≡ true → i < length bs → get_or bs i 0 < n
body_in n bs i h k = ltb-true (get_or bs i 0) n (all_in (λ b. ltb b n) (get_or bs i 0) bs (get_or-mem bs i k) h)

-- a live constraint that passes question 7 has its bodies inside the table
pub bodies_in : (l : List ℕ) (c : Lent) (i : ℕ) → c.live ≡ true → sound (length l) (lent c) ≡ true → i < length c.ends.now → get_or c.ends.now i 0 < length l
bodies_in l c i e s k = body_in (length l) c.ends.now i (sound-fits (length l) (lent c) e s).inside k

-- the label of a live pair
pub label_live : (l : List ℕ) (t : Bool) (a b r : ℕ) → t ≡ true → a < length l → b < length l → r ≡ min (get_or l a 0) (get_or l b 0) → get_or l b 0 ≤ none → r ≡ label_by l (constraint t a b)
label_live l t a b r e ha hb q k = rw e (omega (arith, q, k, get_or-any l a 0 none ha, get_or-any l b 0 none hb))

least-le : (l bs : List ℕ) → least l bs ≤ none
least-le l [] = omega arith
least-le l (b ∷ bs) = omega (arith, least-le l bs)

-- the least so far and those to come make up the whole
pub record Least (l bs : List ℕ) (r i : ℕ) : Type 0 where
  pub small : r ≤ none
  pub within : min r (least l (drop i bs)) ≡ least l bs

pub least-starts : (l bs : List ℕ) → Least l bs none 0
least-starts l bs = record { small = omega arith; within = omega (arith, least-le l bs) }

pub least_turns : (l bs : List ℕ) (r i v : ℕ) → Least l bs r i → i < length bs → get_or bs i 0 < length l → v ≡ min r (get_or l (get_or bs i 0) 0) → Least l bs v (i + 1)
least_turns l bs r i v w h k e = record {
  small = omega (arith, w.small, e);
  within = omega (arith, w.within, e, get_or-any l (get_or bs i 0) 0 none k, ap (least l) (drop-cons bs i 0 h), ap (λ (n : ℕ). least l (drop n bs)) (add-one i));
}

pub least-ends : (l bs : List ℕ) (r i : ℕ) → Least l bs r i → length bs ≤ i → (t : Bool) → t ≡ true → r ≡ label_by l (tied t bs)
least-ends l bs r i w h t e = rw e (omega (arith, w.within, w.small, ap (least l) (drop_of_length-le bs {i = i} h)))
