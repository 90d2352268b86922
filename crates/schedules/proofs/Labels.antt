-- What an accepted islands call leaves. Constraint n has its label at place n of the manifold labels followed by the joint labels, and
-- each table begins with the definition's labels; so the constraints with label i are the definition's.
use Rattle.std.proofs.Common.{ℕ, ◌+◌, ◌-◌, ◌<◌, ◌≡◌, sym, ap, ◌∙◌, Bool, cond, List, map, arith, ltb, eqb, length, get_or, length-append, get_or-append-add, ltb-true, ltb-false}
use Rattle.std.proofs.Math.ListN.{length-map, get_or-map, get_or-append}
use Rattle.lists.proofs.Laws.{by_cases, range_high}
use Rattle.lists.proofs.Ranges.{filter_ext_in}
use Rattle.frame.specs.Frames.{Constraint, Frame, constraints, numbers, constraint_at, nothing, touches, none}
use Rattle.connected_sets.specs.Islands.{label, of_island}
use Rattle.island.specs.Calls.{labels_after}
use Rattle.schedules.specs.Labels.{label_in, labelled, IslandsAreRead}

module _ (f : Frame) where
  -- a place that a table of labels uses
  label_at : (cs : List Constraint) (old table : List ℕ) (n : ℕ) → table ≡ labels_after 0 (map (label f) cs) old → n < length cs → get_or table n none ≡ label f (get_or cs n nothing)
  unfolding labels_after label touches
  label_at cs old table n e h =
      ap (λ (t : List ℕ). get_or t n none) e
      ∙ get_or-append (map (label f) cs) _ none n (omega (arith, length-map cs (label f)))
      ∙ get_or-map (label f) cs n nothing

  module _ (m₀ j₀ m j : List ℕ) (em : m ≡ labels_after 0 (map (label f) f.manifolds) m₀) (ej : j ≡ labels_after 0 (map (label f) f.joints) j₀) where
    label-read : (n : ℕ) → n < length (constraints f) → label_in f m j n ≡ label f (constraint_at f n)
    unfolding label_in constraint_at
    label-read n h = by_cases (ltb n M)
        (λ t. let l = ltb-true n M t in
        ap place t ∙ label_at f.manifolds m₀ m n em l ∙ ap (label f) (sym (get_or-append f.manifolds f.joints nothing n l)))
        (λ t. let l = ltb-false n M t in
        let i : n ≡ M + (n - M) = omega arith in
        let here : get_or (constraints f) n nothing ≡ get_or f.joints (n - M) nothing = ap (λ (k : ℕ). get_or (constraints f) k nothing) i ∙ get_or-append-add f.manifolds f.joints (n - M) nothing in
        ap place t ∙ label_at f.joints j₀ j (n - M) ej (omega (arith, length-append f.manifolds f.joints)) ∙ ap (label f) (sym here))
      where
        M : ℕ
        M = length f.manifolds

        -- where the label stands
        place : Bool → ℕ
        place t = cond t (get_or m n none) (get_or j (n - length f.manifolds) none)

    labelled_is : (i : ℕ) → labelled f m j i ≡ of_island f i
    unfolding labelled of_island
    labelled_is i = filter_ext_in _ _ (numbers f) (λ n k. ap (eqb i) (label-read n (omega (arith, range_high n 0 (length (constraints f)) k))))

pub islands-read : IslandsAreRead
islands-read f t u number islands h = record { count = h.count; members = labelled_is f t.manifold_islands t.joint_islands u.manifold_islands u.joint_islands h.manifold_labels h.joint_labels }
