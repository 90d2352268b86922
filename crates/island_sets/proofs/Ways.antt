-- The way from a body to its root, link by link, as the code reads it: `get_or p b 0` within the table. Compressing sets the links of bodies behind, and
-- those ahead, with fewer links to go, stay as they were.
use Rattle.std.proofs.Common.{ℕ, suc, ◌+◌, ◌≤◌, ◌<◌, arith, ◌≡◌, refl, sym, ap, ◌∙◌, not, List, eqb, length, get_or, set, eq-eqb, ne_eqb}
use Rattle.std.proofs.Math.Decide.{ℕ_discrete}
use Rattle.lists.specs.Basics.{one}
use Rattle.island_sets.specs.Sets.{link, root_of, links_of}
use Rattle.island_sets.specs.Steps.{Balanced, Shortened}
use Rattle.island_sets.proofs.Links.{Ends, root_here, root_step, links_here, links_step, link_other, read_is}
use Rattle.island_sets.proofs.Weights.{ends, shortened_none, shortened_then, shortened}

pub read_here : (p : List ℕ) (b : ℕ) → b < length p → get_or p b 0 ≡ b → root_of p b ≡ b
read_here p b k e = root_here p b (sym (read_is p b k) ∙ e)

pub read_last : (p : List ℕ) (b : ℕ) → b < length p → get_or p b 0 ≡ b → links_of p b ≡ 0
read_last p b k e = links_here p b (sym (read_is p b k) ∙ e)

module _ (p : List ℕ) (h : Balanced p) (b : ℕ) (k : b < length p) where
  ended : Ends p
  ended = ends p h.0 h.1.weighed

  pub read_inside : get_or p b 0 < length p
  read_inside = omega (arith, read_is p b k, h.1.weighed.inside b k)

  pub read_root : root_of p (get_or p b 0) ≡ root_of p b
  read_root = ap (root_of p) (read_is p b k) ∙ root_step p ended b

  pub read_links : (get_or p b 0 ≡ b → ⊥) → links_of p b ≡ suc (links_of p (get_or p b 0))
  read_links n = links_step p ended b (λ e. n (read_is p b k ∙ e)) ∙ ap (λ (x : ℕ). suc (links_of p x)) (sym (read_is p b k))

  -- the first link counts if it leads on
  pub first-link : links_of p b ≡ one (not (eqb (get_or p b 0) b)) + links_of p (get_or p b 0)
  first-link = go (ℕ_discrete (get_or p b 0) b)
    where
      go : Dec (get_or p b 0 ≡ b) → links_of p b ≡ one (not (eqb (get_or p b 0) b)) + links_of p (get_or p b 0)
      go (yes e) = let q : links_of p (get_or p b 0) ≡ links_of p b = ap (links_of p) e in rw (eq-eqb (get_or p b 0) b e) (omega (arith, q))
      go (no n) = rw (ne_eqb (get_or p b 0) b n) (omega (arith, read_links n))

-- ---- on the way from a body of p₀ to its root, with the bodies behind compressed in p
pub record Way (p₀ : List ℕ) (root : ℕ) (p : List ℕ) (body : ℕ) : Type 0 where
  pub short : Shortened p₀ p
  pub inside : body < length p₀
  pub same_root : root_of p₀ body ≡ root
  pub ahead : (x : ℕ) → links_of p₀ x ≤ links_of p₀ body → link p x ≡ link p₀ x

pub way_start : (p : List ℕ) (root body : ℕ) → body < length p → root ≡ root_of p body → Way p root p body
way_start p root body k e = record { short = shortened_none p; inside = k; same_root = sym e; ahead = λ x l. refl }

module _ (p₀ : List ℕ) (h : Balanced p₀) (root : ℕ) (p : List ℕ) (body : ℕ) (way : Way p₀ root p body) (n : body ≡ root → ⊥) where
  inside_now : body < length p
  inside_now = omega (arith, way.inside, way.short.long)

  next : get_or p body 0 ≡ get_or p₀ body 0
  next = read_is p body inside_now ∙ way.ahead body (omega arith) ∙ sym (read_is p₀ body way.inside)

  pub way_less : links_of p₀ body ≡ suc (links_of p₀ (get_or p body 0))
  way_less = read_links p₀ h body way.inside (λ e. n (sym (read_here p₀ body way.inside e) ∙ way.same_root)) ∙ ap (λ (x : ℕ). suc (links_of p₀ x)) (sym next)

  balanced_now : Balanced p
  balanced_now = (h.0, way.short.sets h.0 h.1)

  pub way_on : Way p₀ root (set p body root) (get_or p body 0)
  way_on = record {
    short = shortened_then p₀ p (set p body root) way.short
        (shortened p balanced_now body root inside_now (sym (ap (λ (g : ℕ → ℕ). g body) way.short.roots ∙ way.same_root)));
    inside = omega (arith, next, read_inside p₀ h body way.inside);
    same_root = ap (root_of p₀) next ∙ read_root p₀ h body way.inside ∙ way.same_root;
    ahead = λ x l. link_other p body root x (λ e. absurd (omega (arith, way_less, l, ap (links_of p₀) e))) ∙ way.ahead x (omega (arith, way_less, l));
  }
