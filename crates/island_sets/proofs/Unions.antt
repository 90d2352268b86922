-- A union: the two lookups change no root, the loser of the two roots hangs under the winner, and that is `hang`; of a root and itself nothing changes.
use Rattle.std.proofs.Common.{ℕ, ◌+◌, ◌-◌, ◌≤◌, ◌<◌, min, arith, ◌≡◌, refl, sym, ap, ◌∙◌, ◌⊎◌, inl, inr, ⊎_elim, Bool, true, false, ◌||◌, cond, List, eqb, ltb, length, get_or, set, eqb-true, ltb-true, ltb-false}
use Rattle.std.proofs.Math.Path.{fun_ext}
use Rattle.std.proofs.Math.Decide.{dec_le}
use Rattle.lists.proofs.Laws.{by_cases}
use Rattle.island_sets.specs.Sets.{root_of, size_in, winner_of, winner, hang}
use Rattle.island_sets.specs.Steps.{Sets, Shortened}
use Rattle.island_sets.proofs.Links.{root_root}
use Rattle.island_sets.proofs.Weights.{ends, root_inside, told_root}
use Rattle.island_sets.proofs.Hangs.{moved, roots_hung, sets_hung}

-- ---- which root wins: one of the two, and its set is no smaller
one_wins : (m n u v : ℕ) → ((winner_of m n u v ≡ u) × (n ≤ m)) ⊎ ((winner_of m n u v ≡ v) × (m ≤ n))
one_wins m n u v = by_cases (ltb m n)
    (λ t. inr (rw t, omega (arith, ltb-true m n t)))
    (λ t. by_cases (ltb n m) (λ k. inl (rw (t, k), omega (arith, ltb-true n m k))) (λ k. tie (is_min t k) (ltb-false m n t) (ltb-false n m k) (dec_le u v)))
  where
    is_min : ltb m n ≡ false → ltb n m ≡ false → winner_of m n u v ≡ min u v
    is_min t k = rw (t, k)

    tie : winner_of m n u v ≡ min u v → n ≤ m → m ≤ n → Dec (u ≤ v) → ((winner_of m n u v ≡ u) × (n ≤ m)) ⊎ ((winner_of m n u v ≡ v) × (m ≤ n))
    tie e a b (yes l) = inl (omega (arith, e, l), a)
    tie e a b (no l) = inr (omega (arith, e, l), b)

wins_self : (m u : ℕ) → winner_of m m u u ≡ u
wins_self m u = ⊎_elim (λ w. w.0) (λ w. w.0) (one_wins m m u u)

winner_self : (n : ℕ) (root : ℕ → ℕ) (u : ℕ) → winner n root u u ≡ u
unfolding winner
winner_self n root u = wins_self (size_in n root u) u

-- ---- `hang` of two roots, and the loser that moves
abbrev hang_roots : ℕ → (ℕ → ℕ) → ℕ → ℕ → ℕ → ℕ
hang_roots n root u v x = cond (eqb (root x) u || eqb (root x) v) (winner n root u v) (root x)

moves_right : (u v z t : ℕ) → t ≡ u → moved u v z ≡ cond (eqb z u || eqb z v) t z
moves_right u v z t e = by_cases (eqb z u) (λ q. rw (q, e) (under (eqb-true z u q))) (λ q. rw (q, e))
  where
    under : z ≡ u → moved u v z ≡ u
    under q = by_cases (eqb z v) (λ k. rw k) (λ k. rw k q)

moves_left : (u v z t : ℕ) → t ≡ v → moved v u z ≡ cond (eqb z u || eqb z v) t z
moves_left u v z t e = by_cases (eqb z u) (λ q. rw (q, e)) (λ q. rw (q, e) (under (eqb z v) refl))
  where
    under : (k : Bool) → eqb z v ≡ k → z ≡ cond k v z
    under true k = eqb-true z v k
    under false k = refl

moves_none : (u z t : ℕ) → t ≡ u → z ≡ cond (eqb z u || eqb z u) t z
moves_none u z t e = by_cases (eqb z u) (λ q. rw (q, e) (eqb-true z u q)) (λ q. rw q)

-- ---- two roots
module _ (p s : List ℕ) (h : Sets p s) (u v : ℕ) (ku : u < length p) (kv : v < length p) (eu : root_of p u ≡ u) (ev : root_of p v ≡ v) (ne : u ≡ v → ⊥) where
  winner_is : winner (length p) (root_of p) u v ≡ winner_of (get_or s u 0) (get_or s v 0) u v
  unfolding winner
  winner_is = rw (told_root p s h u ku eu, told_root p s h v kv ev)

  hang_roots_lem : hang_roots (length p) (root_of p) u v ≡ hang (length p) (root_of p) u v
  hang_roots_lem = ap (λ (x : ℕ). hang_roots (length p) (root_of p) x v) (sym eu) ∙ ap (hang_roots (length p) (root_of p) (root_of p u)) (sym ev)

  -- the tables after the stores, where t is the winner
  module _ (t : ℕ) (et : t ≡ winner_of (get_or s u 0) (get_or s v 0) u v) (p' s' : List ℕ) where
    abbrev Made : Type 0
    Made = Sets p' s' × (root_of p' ≡ hang (length p) (root_of p) u v)

    under_left : t ≡ u → get_or s v 0 ≤ get_or s u 0 → p' ≡ set p v u → s' ≡ set s u (get_or s u 0 + get_or s v 0) → Made
    under_left e le ep es = rw (ep, es) (
      sets_hung p s h u v ku kv eu ev ne le,
      roots_hung p s h u v ku kv eu ev ne le ∙ fun_ext (λ z. moves_right u v (root_of p z) (winner (length p) (root_of p) u v) (winner_is ∙ sym et ∙ e)) ∙ hang_roots_lem,
    )

    under_right : t ≡ v → get_or s u 0 ≤ get_or s v 0 → p' ≡ set p u v → s' ≡ set s v (get_or s v 0 + get_or s u 0) → Made
    under_right e le ep es =
        let en : v ≡ u → ⊥ = λ q. ne (sym q) in rw (ep, es) (
          sets_hung p s h v u kv ku ev eu en le,
          roots_hung p s h v u kv ku ev eu en le ∙ fun_ext (λ z. moves_left u v (root_of p z) (winner (length p) (root_of p) u v) (winner_is ∙ sym et ∙ e)) ∙ hang_roots_lem,
        )

    pub left_stays : t ≡ u → p' ≡ set p v u → s' ≡ set s u (get_or s u 0 + get_or s v 0) → Made
    left_stays e = ⊎_elim (λ w. under_left e w.1) (λ w. absurd (ne (sym e ∙ et ∙ w.0))) (one_wins (get_or s u 0) (get_or s v 0) u v)

    pub right_stays : (t ≡ u → ⊥) → p' ≡ set p u v → s' ≡ set s v (get_or s v 0 + get_or s u 0) → Made
    right_stays n = ⊎_elim (λ w. absurd (n (et ∙ w.0))) (λ w. under_right (et ∙ w.0) w.1) (one_wins (get_or s u 0) (get_or s v 0) u v)

    -- the two as they are picked: the winner, and what is left of their sum
    module _ (w : ℕ) (ew : w ≡ u + v - t) where
      pub picked_stays : p' ≡ set p w t → s' ≡ set s t (get_or s t 0 + get_or s w 0) → Made
      picked_stays ep es = ⊎_elim
          (λ k. under_left (et ∙ k.0) k.1 (ep ∙ stored (et ∙ k.0) (omega (arith, et ∙ k.0))) (es ∙ summed (et ∙ k.0) (omega (arith, et ∙ k.0))))
          (λ k. under_right (et ∙ k.0) k.1 (ep ∙ stored (et ∙ k.0) (omega (arith, et ∙ k.0))) (es ∙ summed (et ∙ k.0) (omega (arith, et ∙ k.0))))
          (one_wins (get_or s u 0) (get_or s v 0) u v)
        where
          stored : {x y : ℕ} → t ≡ x → w ≡ y → set p w t ≡ set p y x
          stored ex ey = rw (ex, ey)

          summed : {x y : ℕ} → t ≡ x → w ≡ y → set s t (get_or s t 0 + get_or s w 0) ≡ set s x (get_or s x 0 + get_or s y 0)
          summed ex ey = rw (ex, ey)

-- ---- p₀ at entry, p₁ and p₂ after the two lookups, which give u and v
module _ (p₀ p₁ p₂ s : List ℕ) (a b u v : ℕ) (h : Sets p₀ s) (ka : a < length p₀) (kb : b < length p₀)
    (c₁ : Shortened p₀ p₁) (c₂ : Shortened p₁ p₂) (qu : u ≡ root_of p₀ a) (qv : v ≡ root_of p₁ b) where
  same_roots : root_of p₂ ≡ root_of p₀
  same_roots = c₂.roots ∙ c₁.roots

  same_long : length p₂ ≡ length p₀
  same_long = c₂.long ∙ c₁.long

  right_is : v ≡ root_of p₀ b
  right_is = qv ∙ ap (λ (g : ℕ → ℕ). g b) c₁.roots

  root_now : (x r : ℕ) → r ≡ root_of p₀ x → root_of p₂ r ≡ r
  root_now x r e = ap (λ (g : ℕ → ℕ). g r) same_roots ∙ ap (root_of p₀) e ∙ root_root p₀ (ends p₀ s h.weighed) x ∙ sym e

  sets-now : Sets p₂ s
  sets-now = c₂.sets s (c₁.sets s h)

  -- what joining the two roots requires
  pub ready : Sets p₂ s × (u < length p₂) × (v < length p₂) × (root_of p₂ u ≡ u) × (root_of p₂ v ≡ v)
  ready = (
    sets-now,
    omega (arith, qu, same_long, root_inside p₀ s h.weighed a ka),
    omega (arith, right_is, same_long, root_inside p₀ s h.weighed b kb),
    root_now a u qu,
    root_now b v right_is,
  )

  -- the roots of the roots are themselves, so joining the roots joins the sets
  hung : hang (length p₂) (root_of p₂) u v ≡ hang (length p₀) (root_of p₀) a b
  hung = ap (λ (n : ℕ). hang n (root_of p₂) u v) same_long
      ∙ ap (λ (x : ℕ). hang_roots (length p₀) (root_of p₂) x (root_of p₂ v)) (root_now a u qu ∙ qu)
      ∙ ap (λ (y : ℕ). hang_roots (length p₀) (root_of p₂) (root_of p₀ a) y) (root_now b v right_is ∙ right_is)
      ∙ ap (λ (g : ℕ → ℕ). hang_roots (length p₀) g (root_of p₀ a) (root_of p₀ b)) same_roots

  pub joined : (p₃ s₃ : List ℕ) → Sets p₃ s₃ × (root_of p₃ ≡ hang (length p₂) (root_of p₂) u v) → Sets p₃ s₃ × (root_of p₃ ≡ hang (length p₀) (root_of p₀) a b)
  joined p₃ s₃ w = (w.0, w.1 ∙ hung)

  -- one set: nothing changes
  pub alike : u ≡ v → Sets p₂ s × (root_of p₂ ≡ hang (length p₀) (root_of p₀) a b)
  alike e = (sets-now, same_roots ∙ fun_ext here)
    where
      one_root : root_of p₀ b ≡ root_of p₀ a
      one_root = sym right_is ∙ sym e ∙ qu

      here : (z : ℕ) → root_of p₀ z ≡ hang (length p₀) (root_of p₀) a b z
      here z = moves_none (root_of p₀ a) (root_of p₀ z) (winner (length p₀) (root_of p₀) (root_of p₀ a) (root_of p₀ a)) (winner_self (length p₀) (root_of p₀) (root_of p₀ a))
          ∙ ap (λ (y : ℕ). hang_roots (length p₀) (root_of p₀) (root_of p₀ a) y z) (sym one_root)
