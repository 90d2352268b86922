-- Laws of `join`: joining never raises a number, keeps equal numbers equal, makes the numbers of an edge's two bodies equal,
-- and leads from no body to another but along edges.
use Rattle.std.proofs.Common.{ℕ, ◌≤◌, min, max, arith, ◌≡◌, refl, sym, ap, ◌∙◌, subst, ◌⊎◌, inl, inr, ⊎_elim, List, [], ◌∷◌}
use Rattle.std.proofs.Math.Decide.{dec_le}
use mathlib.Core.List.{Memᴰ}
use mathlib.Core.List.Memᴰ
use Rattle.island_sets.specs.Sets.{relabel, merge}
use Rattle.island_sets.proofs.Merges.{relabel_cases, relabel-le, relabel-left, relabel_right}
use Rattle.connected_sets.specs.Islands.{Edge, join}

-- the larger and the smaller of two are the two
ordered : (p q : ℕ) → ((max p q ≡ p) × (min p q ≡ q)) ⊎ ((max p q ≡ q) × (min p q ≡ p))
ordered p q = go (dec_le p q)
  where
    go : Dec (p ≤ q) → ((max p q ≡ p) × (min p q ≡ q)) ⊎ ((max p q ≡ q) × (min p q ≡ p))
    go (yes h) = inr (omega arith)
    go (no h) = inl (omega arith)

-- ---- an equivalence that holds over each edge holds from each body to its number
module _ (R : ℕ → ℕ → Type 0) (same : (x : ℕ) → R x x) (back : (x y : ℕ) → R x y → R y x) (on : (x y z : ℕ) → R x y → R y z → R x z) where
  merge_rel : (g : ℕ → ℕ) (a b : ℕ) → ((x : ℕ) → R x (g x)) → R a b → (x : ℕ) → R x (merge g a b x)
  merge_rel g a b h e x = ⊎_elim hi (λ w. subst (λ (n : ℕ). R x n) (sym w.1) (h x)) (relabel_cases (g a) (g b) (g x))
    where
      across : R (g a) (g b)
      across = on _ _ _ (back _ _ (h a)) (on _ _ _ e (h b))

      hi : (g x ≡ max (g a) (g b)) × (relabel (g a) (g b) (g x) ≡ min (g a) (g b)) → R x (relabel (g a) (g b) (g x))
      hi w = subst (λ (n : ℕ). R x n) (sym w.1) (⊎_elim
          (λ o. subst (λ (n : ℕ). R x n) (sym o.1) (on _ _ _ (subst (λ (n : ℕ). R x n) (w.0 ∙ o.0) (h x)) across))
          (λ o. subst (λ (n : ℕ). R x n) (sym o.1) (on _ _ _ (subst (λ (n : ℕ). R x n) (w.0 ∙ o.0) (h x)) (back _ _ across)))
          (ordered (g a) (g b)))

  pub join_rel : (es : List Edge) (g : ℕ → ℕ) → ((x : ℕ) → R x (g x)) → ((e : Edge) → Memᴰ e es → R e.from e.to) → (x : ℕ) → R x (join g es x)
  join_rel [] g h k x = h x
  join_rel (e ∷ es) g h k x =
      join_rel es (merge g e.from e.to) (merge_rel g e.from e.to h (k e (Memᴰ.head refl))) (λ e' m. k e' (Memᴰ.tail m)) x

pub join-le : (es : List Edge) (g : ℕ → ℕ) → ((x : ℕ) → g x ≤ x) → (x : ℕ) → join g es x ≤ x
join-le [] g h x = h x
join-le (e ∷ es) g h x = join-le es (merge g e.from e.to) (λ y. omega (arith, relabel-le (g e.from) (g e.to) (g y), h y)) x

join-same : (es : List Edge) (g : ℕ → ℕ) (u v : ℕ) → g u ≡ g v → join g es u ≡ join g es v
join-same [] g u v h = h
join-same (e ∷ es) g u v h = join-same es (merge g e.from e.to) u v (ap (relabel (g e.from) (g e.to)) h)

pub join-edge : (es : List Edge) (g : ℕ → ℕ) (e : Edge) → Memᴰ e es → join g es e.from ≡ join g es e.to
join-edge [] g e m = absurd (Memᴰ.not-nil m)
join-edge (d ∷ es) g e m = ⊎_elim
    (λ q. join-same es (merge g d.from d.to) e.from e.to
    (subst (λ (c : Edge). merge g d.from d.to c.from ≡ merge g d.from d.to c.to) (sym q)
    (relabel-left (g d.from) (g d.to) ∙ sym (relabel_right (g d.from) (g d.to)))))
    (λ m'. join-edge es (merge g d.from d.to) e m')
    (Memᴰ.cases_cons m)
