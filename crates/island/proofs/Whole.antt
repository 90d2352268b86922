-- A whole frame. Once all constraints are joined, a dynamic body is constrained exactly if it is in an island, and the bodies of one root are those of one
-- connected set; so the numbers that `number` gives are the definition's, and with them the labels of the constraints.
use Rattle.std.proofs.Common.{ℕ, arith, ◌≡◌, refl, sym, ap, ◌∙◌, subst, Bool, true, false, not, ◌&&◌, cond, List, map, eqb, length, get_or, replicate}
use Rattle.std.proofs.Math.Path.{fun_ext}
use mathlib.Core.List.Memᴰ
use Rattle.lists.specs.Basics.{any, all, count, range}
use Rattle.lists.proofs.Laws.{and_left, and_right, all_append, replicate-at}
use Rattle.frame.specs.Frames.{Frame, constraints, dynamic, on, sound, all_sound, none}
use Rattle.island_sets.specs.Sets.{root_of, links_of, size_in}
use Rattle.island_sets.specs.Steps.{Sets, LowestOf}
use Rattle.island_sets.proofs.Links.{root_end}
use Rattle.island_sets.proofs.Weights.{ends, told_at, bound_told}
use Rattle.island_labels.specs.Labels.{bare, in_island_by, leads_by, Together, Numberable, Numbered, NumberedByLowest, label_by}
use Rattle.connected_sets.specs.Islands.{edges_of, edges, hang_all, lowest, heaviest, set_size, in_island, leads, island_count, body_label}
use Rattle.island.specs.Calls.{WeighedSets}
use Rattle.island_joins.specs.Joins.{Joined}
use Rattle.island.specs.Steps.{Sized, Ready, Labelled}
use Rattle.connected_sets.proofs.Theorem.{connected_island}
use Rattle.connected_sets.proofs.Weights.{heaviest-lowest, root_connected, size_is}
use Rattle.island.proofs.Tables.{tabled}
use Rattle.island.proofs.Labelling.{labels_are}

-- ---- fresh tables p₁ and b₁, all constraints joined
module _ (f : Frame) (p₁ b₁ p s b m j : List ℕ) (k : ℕ) (alone : root_of p₁ ≡ (λ (x : ℕ). x)) (eb : b₁ ≡ replicate k none) (z : Sized f p b m j) (sets : Sets p s) (w : Joined f.types (constraints f) p₁ b₁ p b) where
  edges-bare : edges (bare f.types) (constraints f) ≡ edges f (constraints f)
  unfolding edges edges_of dynamic
  edges-bare = refl

  roots_are : root_of p ≡ heaviest f
  unfolding heaviest
  roots_are = w.roots ∙ ap (hang_all (length f.types) (root_of p₁)) edges-bare ∙ ap (λ (g : ℕ → ℕ). hang_all (length f.types) g (edges f (constraints f))) alone

  pub ready : all_sound f ≡ true → Ready f p b m j
  ready ok = record {
    sized = z;
    passed = ok;
    balanced = (s, sets);
    roots = roots_are;
    constrained = λ x. w.constrained x ∙ ap (λ (v : ℕ). cond (any (on x) (constraints f)) 0 v) (ap (λ (l : List ℕ). get_or l x none) eb ∙ replicate-at k x none);
  }

  -- as many bodies have a root as its connected set has
  size_here : (x : ℕ) → size_in (length p) (root_of p) (root_of p x) ≡ set_size f x
  size_here x = ap (λ (n : ℕ). size_in n (root_of p) (root_of p x)) z.long_parents ∙ ap (λ (g : ℕ → ℕ). size_in (length f.types) g (g x)) roots_are ∙ size_is f x

  pub weighed-sets : WeighedSets f p s
  weighed-sets = record {
    ends = root_end p (ends p s sets.weighed);
    roots = λ x. ap (λ (g : ℕ → ℕ). g x) roots_are;
    links = λ x h. omega (arith, bound_told p (s, sets) x (links_of p x) (omega (arith, h, z.long_parents)) refl, size_here x);
    sizes = λ x h. told_at p s sets x (omega (arith, h, z.long_parents)) ∙ size_here x;
  }

-- ---- what the labels and the roots say
module _ (f : Frame) (p b m j : List ℕ) (r : Ready f p b m j) where
  in_island_is : in_island_by f.types b ≡ in_island f
  unfolding in_island dynamic
  in_island_is = fun_ext (λ x. ap (λ (v : ℕ). dynamic f x && not (eqb v none)) (r.constrained x) ∙ ap (λ (t : Bool). dynamic f x && t) (shown (any (on x) (constraints f))))
    where
      shown : (t : Bool) → not (eqb (cond t 0 none) none) ≡ t
      shown true = refl
      shown false = refl

  lowest_of : LowestOf (root_of p) (lowest f)
  lowest_of = subst (λ (g : ℕ → ℕ). LowestOf g (lowest f)) (sym r.roots) (heaviest-lowest f)

  leads_is : leads_by (in_island_by f.types b) (lowest f) ≡ leads f
  unfolding leads
  leads_is = ap (λ (g : ℕ → Bool). leads_by g (lowest f)) in_island_is

  pub numberable : Numberable f.types p b
  unfolding Together
  numberable = record {
    balanced = r.balanced;
    long_parents = r.sized.long_parents;
    long_bodies = r.sized.long_bodies;
    together = λ x y e.
        ap (λ (g : ℕ → Bool). g x) in_island_is
        ∙ connected_island f x y (root_connected f x y (subst (λ (g : ℕ → ℕ). g x ≡ g y) r.roots e))
        ∙ ap (λ (g : ℕ → Bool). g y) (sym in_island_is);
    lowest = (lowest f, lowest_of);
  }

  manifolds_pass : all (sound (length f.types)) f.manifolds ≡ true
  unfolding all_sound
  manifolds_pass = and_left (all (sound (length f.types)) f.manifolds) (all (sound (length f.types)) f.joints) (sym (all_append (sound (length f.types)) f.manifolds f.joints) ∙ r.passed)

  joints_pass : all (sound (length f.types)) f.joints ≡ true
  unfolding all_sound
  joints_pass = and_right (all (sound (length f.types)) f.manifolds) (all (sound (length f.types)) f.joints) (sym (all_append (sound (length f.types)) f.manifolds f.joints) ∙ r.passed)

  -- ---- after the numbering: n islands, and the bodies' labels l
  module _ (n : ℕ) (l : List ℕ) (w : NumberedByLowest f.types p b n l) (long : length l ≡ length b) where
    pub asks_manifolds : all (sound (length l)) f.manifolds ≡ true
    asks_manifolds = ap (λ (k : ℕ). all (sound k) f.manifolds) (long ∙ r.sized.long_bodies) ∙ manifolds_pass

    pub asks_joints : all (sound (length l)) f.joints ≡ true
    asks_joints = ap (λ (k : ℕ). all (sound k) f.joints) (long ∙ r.sized.long_bodies) ∙ joints_pass

    by_lowest : Numbered (in_island_by f.types b) (lowest f) (length f.types) n l
    by_lowest = w.numbered (lowest f) lowest_of

    body_is : (x : ℕ) → get_or l x none ≡ body_label f x
    unfolding body_label
    body_is x =
        by_lowest.labels_are x
        ∙ ap (λ (g : ℕ → Bool). cond (g x) (count (leads_by (in_island_by f.types b) (lowest f)) (range (lowest f x))) none) in_island_is
        ∙ ap (λ (g : ℕ → Bool). cond (in_island f x) (count g (range (lowest f x))) none) leads_is

    pub labelled : (m' j' : List ℕ) → m' ≡ map (label_by l) f.manifolds → j' ≡ map (label_by l) f.joints → Labelled f l m' j' n
    unfolding island_count
    labelled m' j' em ej = record {
      count = by_lowest.islands_are ∙ ap (λ (g : ℕ → Bool). count g (range (length f.types))) leads_is;
      body_labels = tabled (body_label f) l (length f.types) none (long ∙ r.sized.long_bodies) body_is;
      manifold_labels = em ∙ labels_are f r.sized.few l body_is f.manifolds (λ c k. Memᴰ.append_left f.joints k);
      joint_labels = ej ∙ labels_are f r.sized.few l body_is f.joints (λ c k. Memᴰ.append_right f.manifolds k);
    }
