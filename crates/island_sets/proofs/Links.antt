-- Laws of links that end. A root is the one function that keeps its value over every link and fixes where links end. Each link on the way is one of
-- `links_of`. Links end wherever a number falls along each of them, and is at most the table's length at first.
use Rattle.std.proofs.Common.{ℕ, zero, suc, ◌≤◌, ◌<◌, arith, ◌≡◌, refl, sym, ap, ◌∙◌, subst, List, length, get_or, set, get_or-set_same, get_or-set_other, eq-eqb, ne_eqb}
use Rattle.std.proofs.Math.Decide.{ℕ_discrete}
use Rattle.std.proofs.Math.Path.{fun_ext}
use Rattle.lists.proofs.Laws.{get_or-any}
use Rattle.island_sets.specs.Sets.{link, follow, root_of, steps, links_of}

pub follow_stays : (p : List ℕ) (n b : ℕ) → link p b ≡ b → follow p n b ≡ b
follow_stays p zero b e = refl
follow_stays p (suc n) b e = ap (follow p n) e ∙ follow_stays p n b e

follow_last : (p : List ℕ) (n b : ℕ) → follow p (suc n) b ≡ link p (follow p n b)
follow_last p zero b = refl
follow_last p (suc n) b = follow_last p n (link p b)

follow_keeps : (p : List ℕ) (g : ℕ → ℕ) → ((b : ℕ) → g (link p b) ≡ g b) → (n b : ℕ) → g (follow p n b) ≡ g b
follow_keeps p g k zero b = refl
follow_keeps p g k (suc n) b = follow_keeps p g k n (link p b) ∙ k b

-- ---- links that end
pub Ends : List ℕ → Type 0
Ends p = (b : ℕ) → link p (root_of p b) ≡ root_of p b

-- a body is its own parent, or it is not
pub by_link : {X : Type 0} (p : List ℕ) (b : ℕ) → (link p b ≡ b → X) → ((link p b ≡ b → ⊥) → X) → X
by_link {X} p b f g = go (ℕ_discrete (link p b) b)
  where
    go : Dec (link p b ≡ b) → X
    go (yes e) = f e
    go (no e) = g e

module _ (p : List ℕ) (m : ℕ → ℕ) (falls : (b : ℕ) → (link p b ≡ b → ⊥) → m (link p b) < m b) where
  settled_stays : (n b : ℕ) → link p b ≡ b → link p (follow p n b) ≡ follow p n b
  settled_stays n b e = subst (λ (x : ℕ). link p x ≡ x) (sym (follow_stays p n b e)) e

  settled : (n b : ℕ) → m b ≤ n → link p (follow p n b) ≡ follow p n b
  settled zero b k = by_link p b (λ e. e) (λ e. absurd (omega (arith, falls b e)))
  settled (suc n) b k = by_link p b (settled_stays (suc n) b) (λ e. settled n (link p b) (omega (arith, falls b e)))

  pub ends_by : ((b : ℕ) → m b ≤ length p) → Ends p
  unfolding Ends root_of
  ends_by most b = settled (length p) b (most b)

pub root_here : (p : List ℕ) (b : ℕ) → link p b ≡ b → root_of p b ≡ b
unfolding root_of
root_here p b e = follow_stays p (length p) b e

pub steps_stay : (p : List ℕ) (n b : ℕ) → link p b ≡ b → steps p n b ≡ 0
steps_stay p zero b e = refl
steps_stay p (suc n) b e = rw (eq-eqb (link p b) b e)

pub steps_move : (p : List ℕ) (n b : ℕ) → (link p b ≡ b → ⊥) → steps p (suc n) b ≡ suc (steps p n (link p b))
steps_move p n b e = rw (ne_eqb (link p b) b e)

steps-le : (p : List ℕ) (n b : ℕ) → steps p n b ≤ n
steps-le p zero b = omega arith
steps-le p (suc n) b = by_link p b (λ e. omega (arith, steps_stay p (suc n) b e)) (λ e. omega (arith, steps_move p n b e, steps-le p n (link p b)))

-- no further link from where they end
steps_more : (p : List ℕ) (n b : ℕ) → link p (follow p n b) ≡ follow p n b → steps p (suc n) b ≡ steps p n b
steps_more p zero b h = steps_stay p 1 b h
steps_more p (suc n) b h = by_link p b
    (λ e. steps_stay p (suc (suc n)) b e ∙ sym (steps_stay p (suc n) b e))
    (λ e. steps_move p (suc n) b e ∙ ap suc (steps_more p n (link p b) h) ∙ sym (steps_move p n b e))

pub links_here : (p : List ℕ) (b : ℕ) → link p b ≡ b → links_of p b ≡ 0
unfolding links_of
links_here p b e = steps_stay p (length p) b e

pub links_le : (p : List ℕ) (b : ℕ) → links_of p b ≤ length p
unfolding links_of
links_le p b = steps-le p (length p) b

module _ (p : List ℕ) (ends : Ends p) where
  pub root_end : (b : ℕ) → link p (root_of p b) ≡ root_of p b
  unfolding Ends
  root_end b = ends b

  pub root_step : (b : ℕ) → root_of p (link p b) ≡ root_of p b
  unfolding root_of
  root_step b = follow_last p (length p) b ∙ root_end b

  pub root_root : (b : ℕ) → root_of p (root_of p b) ≡ root_of p b
  root_root b = root_here p (root_of p b) (root_end b)

  pub links_step : (b : ℕ) → (link p b ≡ b → ⊥) → links_of p b ≡ suc (links_of p (link p b))
  unfolding links_of root_of
  links_step b e = sym (steps_more p (length p) b (root_end b)) ∙ steps_move p (length p) b e

  -- the one function that keeps its value over each link and fixes the ends
  pub roots_are : (g : ℕ → ℕ) → ((b : ℕ) → link p b ≡ b → g b ≡ b) → ((b : ℕ) → g (link p b) ≡ g b) → root_of p ≡ g
  unfolding root_of
  roots_are g e k = fun_ext (λ b. sym (e (root_of p b) (root_end b)) ∙ keeps b)
    where
      keeps : (b : ℕ) → g (root_of p b) ≡ g b
      keeps b = follow_keeps p g k (length p) b

-- ---- one link set
pub link-same : (p : List ℕ) (b r : ℕ) → b < length p → link (set p b r) b ≡ r
link-same p b r h = get_or-set_same p b r b h

pub link_other : (p : List ℕ) (b r x : ℕ) → (x ≡ b → ⊥) → link (set p b r) x ≡ link p x
link_other p b r x n = get_or-set_other p b x r x n

-- what the code reads, `get_or p r 0` at an index within the table
pub read_is : (p : List ℕ) (r : ℕ) → r < length p → get_or p r 0 ≡ link p r
read_is p r k = get_or-any p r 0 r k
