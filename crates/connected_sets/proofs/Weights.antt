-- Joining by weight and joining by lowest body make the same sets: so two bodies have one root exactly if they are connected, and the number of bodies
-- that have a root is the size of its connected set.
use Rattle.std.proofs.Common.{ℕ, ◌≡◌, refl, sym, ◌∙◌, List, [], ◌∷◌, ◌++◌, length, eqb-true, eq-eqb}
use Rattle.frame.specs.Frames.{Frame, constraints}
use Rattle.island_sets.specs.Sets.{merge, size_in, hang}
use Rattle.island_sets.specs.Steps.{SameSets, LowestOf}
use Rattle.island_sets.proofs.Kernels.{same_step, same_size}
use Rattle.connected_sets.specs.Islands.{Edge, Connected, edges, join, hang_all, lowest, heaviest, set_size}
use Rattle.connected_sets.proofs.Theorem.{lowest-same, lowest_in, lowest-le, lowest_connected}

same_folds : (nb : ℕ) (es : List Edge) (g h : ℕ → ℕ) → SameSets g h → SameSets (hang_all nb g es) (join h es)
same_folds nb [] g h s = s
same_folds nb (e ∷ es) g h s = same_folds nb es (hang nb g e.from e.to) (merge h e.from e.to) (same_step nb g h e.from e.to s)

pub hang_all-append : (nb : ℕ) (g : ℕ → ℕ) (es ds : List Edge) → hang_all nb g (es ++ ds) ≡ hang_all nb (hang_all nb g es) ds
hang_all-append nb g [] ds = refl
hang_all-append nb g (e ∷ es) ds = hang_all-append nb (hang nb g e.from e.to) es ds

module _ (f : Frame) where
  same-sets : SameSets (heaviest f) (lowest f)
  unfolding heaviest lowest SameSets
  same-sets = same_folds (length f.types) (edges f (constraints f)) (λ x. x) (λ x. x) (λ x y. refl)

  -- `lowest` gives the lowest body of each root's set
  pub heaviest-lowest : LowestOf (heaviest f) (lowest f)
  heaviest-lowest = record { same = same-sets; below = lowest-le f; fixed = λ x. sym (lowest-same f x (lowest f x) (lowest_in f x)) }

  -- bodies with one root are connected
  pub root_connected : (x y : ℕ) → heaviest f x ≡ heaviest f y → Connected f x y
  unfolding SameSets
  root_connected x y e = lowest_connected f x y (eqb-true (lowest f x) (lowest f y) (sym (same-sets x y) ∙ eq-eqb (heaviest f x) (heaviest f y) e))

  -- connected bodies have one root
  pub connected_root : (x y : ℕ) → Connected f x y → heaviest f x ≡ heaviest f y
  unfolding SameSets
  connected_root x y h = eqb-true (heaviest f x) (heaviest f y) (same-sets x y ∙ eq-eqb (lowest f x) (lowest f y) (lowest-same f x y h))

  pub size_is : (b : ℕ) → size_in (length f.types) (heaviest f) (heaviest f b) ≡ set_size f b
  unfolding set_size
  size_is b = same_size (length f.types) (heaviest f) (lowest f) same-sets b
