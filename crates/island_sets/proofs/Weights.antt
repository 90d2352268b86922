-- Weighed links: sizes rise along each link and are at most the number of bodies, so links end; each link at least doubles the size, so 2 to the
-- number of links is at most the root's size, which is the number of bodies in the set. A link set to the body's root keeps all of that.
use Rattle.std.proofs.Common.{ℕ, zero, suc, ◌-◌, ◌*◌, ◌^◌, ◌≤◌, ◌<◌, arith, pow-suc, mul-le-mul_left, mul_assoc, ◌≡◌, refl, sym, ap, ◌∙◌, subst, List, length, get_or, set, length-set}
use Rattle.std.proofs.Math.Decide.{ℕ_discrete, dec_lt}
use Rattle.std.proofs.Math.Nat.{pow-zero}
use Rattle.std.proofs.Math.ListN.{get_or-eq_default}
use Rattle.island_sets.specs.Sets.{link, follow, root_of, steps, links_of, size_in}
use Rattle.island_sets.specs.Steps.{Weighed, Told, Sets, Balanced, Shortened}
use Rattle.island_sets.proofs.Links.{by_link, Ends, ends_by, root_here, root_step, root_root, roots_are, follow_stays, steps_stay, steps_move, link-same, link_other}

-- past the table's end each body is its own parent
pub link_past : (p : List ℕ) (b : ℕ) → length p ≤ b → link p b ≡ b
link_past p b h = get_or-eq_default p b h

pub moves_inside : (p : List ℕ) (b : ℕ) → (link p b ≡ b → ⊥) → b < length p
moves_inside p b n = go (dec_lt b (length p))
  where
    go : Dec (b < length p) → b < length p
    go (yes h) = h
    go (no h) = absurd (n (link_past p b (omega arith)))

-- one more link's worth of doubling
double : (k w v r : ℕ) → 2 * w ≤ v → 2 ^ k * v ≤ r → 2 ^ suc k * w ≤ r
double k w v r h l =
    let e : 2 ^ suc k * w ≡ 2 ^ k * (2 * w) = ap (λ (m : ℕ). m * w) (pow-suc 2 k) ∙ mul_assoc (2 ^ k) 2 w in
    let m : 2 ^ k * (2 * w) ≤ 2 ^ k * v = mul-le-mul_left (2 ^ k) h in
    omega (arith, e, m)

module _ (p s : List ℕ) (h : Weighed p s) where
  pub climbs : (b : ℕ) → (link p b ≡ b → ⊥) → get_or s b 0 < get_or s (link p b) 0
  climbs b n = omega (arith, h.halves b n, h.some b (moves_inside p b n))

  pub ends : Ends p
  ends = ends_by p (λ b. length p - get_or s b 0) (λ b n. omega (arith, climbs b n, h.most (link p b))) (λ b. omega arith)

  follow_inside : (n b : ℕ) → b < length p → follow p n b < length p
  follow_inside zero b k = k
  follow_inside (suc n) b k = follow_inside n (link p b) (h.inside b k)

  pub root_inside : (b : ℕ) → b < length p → root_of p b < length p
  unfolding root_of
  root_inside b k = follow_inside (length p) b k

  -- no body weighs more than its root
  follow_heavier : (n b : ℕ) → get_or s b 0 ≤ get_or s (follow p n b) 0
  follow_heavier zero b = omega arith
  follow_heavier (suc n) b = by_link p b
      (λ e. omega (arith, ap (λ (x : ℕ). get_or s x 0) (follow_stays p (suc n) b e)))
      (λ e. omega (arith, climbs b e, follow_heavier n (link p b)))

  root_heavier : (b : ℕ) → get_or s b 0 ≤ get_or s (root_of p b) 0
  unfolding root_of
  root_heavier b = follow_heavier (length p) b

  -- each link doubles the size
  doubles_stay : (n b : ℕ) → link p b ≡ b → 2 ^ steps p n b * get_or s b 0 ≤ get_or s (follow p n b) 0
  doubles_stay n b e = omega (arith, pow-zero 2, ap (λ (k : ℕ). 2 ^ k * get_or s b 0) (steps_stay p n b e), ap (λ (x : ℕ). get_or s x 0) (follow_stays p n b e))

  doubles : (n b : ℕ) → 2 ^ steps p n b * get_or s b 0 ≤ get_or s (follow p n b) 0
  doubles zero b = omega (arith, pow-zero 2)
  doubles (suc n) b = by_link p b (doubles_stay (suc n) b) (λ e. omega (
    arith,
    ap (λ (k : ℕ). 2 ^ k * get_or s b 0) (steps_move p n b e),
    double (steps p n (link p b)) (get_or s b 0) (get_or s (link p b) 0) (get_or s (follow p n (link p b)) 0) (h.halves b e) (doubles n (link p b)),
  ))

  links_weigh : (b : ℕ) → 2 ^ links_of p b * get_or s b 0 ≤ get_or s (root_of p b) 0
  unfolding links_of root_of
  links_weigh b = doubles (length p) b

  -- a body that is not its own root, linked to that root
  halves_root : (b : ℕ) → (root_of p b ≡ b → ⊥) → 2 * get_or s b 0 ≤ get_or s (root_of p b) 0
  halves_root b n = omega (arith, h.halves b (λ e. n (root_here p b e)), root_heavier (link p b), ap (λ (x : ℕ). get_or s x 0) (root_step p ends b))

  pub weighed_short : (b r : ℕ) → b < length p → r ≡ root_of p b → Weighed (set p b r) s
  weighed_short b r k q = record {
    long = h.long ∙ sym (length-set p b r);
    inside = λ x l. inside x (subst (λ (m : ℕ). x < m) (length-set p b r) l) (ℕ_discrete x b);
    some = λ x l. h.some x (subst (λ (m : ℕ). x < m) (length-set p b r) l);
    most = λ x. omega (arith, h.most x, length-set p b r);
    halves = λ x n. halves x n (ℕ_discrete x b);
  }
    where
      inside : (x : ℕ) → x < length p → Dec (x ≡ b) → link (set p b r) x < length (set p b r)
      inside x l (yes e) = omega (arith, length-set p b r, ap (link (set p b r)) e, link-same p b r k, root_inside b k)
      inside x l (no n) = omega (arith, length-set p b r, link_other p b r x n, h.inside x l)

      halves_here : (link (set p b r) b ≡ b → ⊥) → 2 * get_or s b 0 ≤ get_or s (link (set p b r) b) 0
      halves_here n = omega (arith, ap (λ (y : ℕ). get_or s y 0) (link-same p b r k ∙ q), halves_root b (λ e. n (link-same p b r k ∙ q ∙ e)))

      halves : (x : ℕ) → (link (set p b r) x ≡ x → ⊥) → Dec (x ≡ b) → 2 * get_or s x 0 ≤ get_or s (link (set p b r) x) 0
      halves x n (yes e) = subst (λ (y : ℕ). (link (set p b r) y ≡ y → ⊥) → 2 * get_or s y 0 ≤ get_or s (link (set p b r) y) 0) (sym e) halves_here n
      halves x n (no m) = omega (arith, ap (λ (y : ℕ). get_or s y 0) (link_other p b r x m), h.halves x (λ e. n (link_other p b r x m ∙ e)))

  pub roots_short : (b r : ℕ) → b < length p → r ≡ root_of p b → Ends (set p b r) → root_of (set p b r) ≡ root_of p
  roots_short b r k q v = roots_are (set p b r) v (root_of p) (λ x e. fixed x e (ℕ_discrete x b)) (λ x. kept x (ℕ_discrete x b))
    where
      fixed : (x : ℕ) → link (set p b r) x ≡ x → Dec (x ≡ b) → root_of p x ≡ x
      fixed x e (yes t) = ap (root_of p) t ∙ sym q ∙ sym (link-same p b r k) ∙ ap (link (set p b r)) (sym t) ∙ e
      fixed x e (no n) = root_here p x (sym (link_other p b r x n) ∙ e)

      kept : (x : ℕ) → Dec (x ≡ b) → root_of p (link (set p b r) x) ≡ root_of p x
      kept x (yes t) = subst (λ (y : ℕ). root_of p (link (set p b r) y) ≡ root_of p y) (sym t) (ap (root_of p) (link-same p b r k ∙ q) ∙ root_root p ends b)
      kept x (no n) = ap (root_of p) (link_other p b r x n) ∙ root_step p ends x

-- ---- the number of bodies
pub told_at : (p s : List ℕ) → Sets p s → (b : ℕ) → b < length p → get_or s (root_of p b) 0 ≡ size_in (length p) (root_of p) (root_of p b)
told_at p s h b k = h.told b k

pub told_root : (p s : List ℕ) → Sets p s → (r : ℕ) → r < length p → root_of p r ≡ r → get_or s r 0 ≡ size_in (length p) (root_of p) r
told_root p s h r k e = subst (λ (x : ℕ). get_or s x 0 ≡ size_in (length p) (root_of p) x) e (told_at p s h r k)

-- 2 to the number of links is at most the number of bodies in the set
links_bound : (p : List ℕ) → Balanced p → (b : ℕ) → b < length p → 2 ^ links_of p b ≤ size_in (length p) (root_of p) (root_of p b)
links_bound p (s, h) b k = omega (arith, links_weigh p s h.weighed b, mul-le-mul_left (2 ^ links_of p b) (h.weighed.some b k), told_at p s h b k)

pub bound_told : (p : List ℕ) → Balanced p → (b n : ℕ) → b < length p → n ≡ links_of p b → 2 ^ n ≤ size_in (length p) (root_of p) (root_of p b)
bound_told p h b n k e = subst (λ (m : ℕ). 2 ^ m ≤ size_in (length p) (root_of p) (root_of p b)) (sym e) (links_bound p h b k)

-- ---- lookups
pub told_same : (n m : ℕ) (f g : ℕ → ℕ) (s : List ℕ) → m ≡ n → g ≡ f → Told n f s → Told m g s
told_same n m f g s e q t = subst (λ (k : ℕ). Told k g s) (sym e) (subst (λ (r : ℕ → ℕ). Told n r s) (sym q) t)

pub shortened_none : (p : List ℕ) → Shortened p p
shortened_none p = record { long = refl; roots = refl; sets = λ s h. h }

pub shortened_then : (p q r : List ℕ) → Shortened p q → Shortened q r → Shortened p r
shortened_then p q r h k = record { long = k.long ∙ h.long; roots = k.roots ∙ h.roots; sets = λ s t. k.sets s (h.sets s t) }

pub shortened : (p : List ℕ) → Balanced p → (b r : ℕ) → b < length p → r ≡ root_of p b → Shortened p (set p b r)
shortened p (s, h) b r k q = record { long = length-set p b r; roots = roots; sets = λ t g. sets t g }
  where
    roots : root_of (set p b r) ≡ root_of p
    roots = roots_short p s h.weighed b r k q (ends (set p b r) s (weighed_short p s h.weighed b r k q))

    sets : (t : List ℕ) → Sets p t → Sets (set p b r) t
    sets t g = record {
      few = omega (arith, g.few, length-set p b r);
      weighed = weighed_short p t g.weighed b r k q;
      told = told_same (length p) (length (set p b r)) (root_of p) (root_of (set p b r)) t (length-set p b r) roots g.told;
    }
