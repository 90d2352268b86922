-- What constraints join, and which bodies they constrain. A live pair of dynamic bodies has one edge, any other pair none; a live constraint on more bodies has an edge from its
-- first dynamic body to each later one. A live constraint constrains its bodies. What is joined by one list and then by another is joined by both together: so a loop over the
-- constraints joins them all.
use Rattle.std.proofs.Common.{ℕ, ◌+◌, ◌*◌, ◌≤◌, ◌<◌, arith, add-one, ◌≡◌, refl, sym, ap, ◌∙◌, Bool, true, false, ◌&&◌, cond, List, [], ◌∷◌, ◌++◌, map, append_assoc, append-nil, eqb, ltb, length, get_or, drop, drop_of_length-le, drop-cons, eqb-true, eq-eqb, ne_eqb, ltb-true, subst}
use Rattle.std.proofs.Math.Bool.{or-false, and-true}
use Rattle.lists.specs.Basics.{any, all, mem}
use Rattle.lists.proofs.Laws.{and_left, and_right, and_both, not-true-false, any_append, all_append, cond-or, clashes}
use Rattle.lists.proofs.Ranges.{join_map-append}
use Rattle.frame.specs.Frames.{Constraint, Frame, constraint, dynamic, on, sound, none}
use Rattle.island_sets.specs.Sets.{root_of, hang}
use Rattle.island_sets.specs.declared.BodySets.{BodySets}
use Rattle.island_sets.specs.Kept.{Kept}
use Rattle.island_sets.proofs.Keeps.{kept_here, kept_on}
use Rattle.island_labels.specs.Labels.{bare}
use Rattle.island_labels.proofs.Labelling.{tied}
use Rattle.connected_sets.specs.Islands.{Edge, star, edges_of, edges, hang_all}
use Rattle.island_joins.specs.Joins.{dynamics, FirstDynamic, Joined, JoinedOrRefused}
use Rattle.connected_sets.proofs.Weights.{hang_all-append}

-- ---- what one pair joins
abbrev pub edge : ℕ → ℕ → Edge
edge a b = record { from = a; to = b }

pairs : (u v : Bool) (a b : ℕ) → star (cond u (a ∷ cond v (b ∷ []) []) (cond v (b ∷ []) [])) ≡ cond (u && v) (edge a b ∷ []) []
pairs true true a b = refl
pairs true false a b = refl
pairs false true a b = refl
pairs false false a b = refl

module _ (n : ℕ) (g : ℕ → ℕ) (ts : List ℕ) (a b : ℕ) where
  abbrev both : Bool
  both = eqb (get_or ts a 0) 2 && eqb (get_or ts b 0) 2

  joined : hang_all n g (edges_of (bare ts) (constraint true a b)) ≡ hang_all n g (cond both (edge a b ∷ []) [])
  unfolding edges_of dynamic
  joined = ap (hang_all n g) (pairs (eqb (get_or ts a 0) 2) (eqb (get_or ts b 0) 2) a b)

  -- the code tests the two types, u and v, as one number
  module _ (u v : ℕ) (eu : u ≡ get_or ts a 0) (ev : v ≡ get_or ts b 0) (small : v < 256) where
    pub join_off : (u * 256 + v ≡ 514 → ⊥) → g ≡ hang_all n g (edges_of (bare ts) (constraint true a b))
    join_off e = sym (joined ∙ rw off)
      where
        off : both ≡ false
        off = not-true-false both (λ t. e (omega (arith, eqb-true (get_or ts a 0) 2 (and_left (eqb (get_or ts a 0) 2) (eqb (get_or ts b 0) 2) t), eqb-true (get_or ts b 0) 2 (and_right (eqb (get_or ts a 0) 2) (eqb (get_or ts b 0) 2) t))))

    pub join-on : u * 256 + v ≡ 514 → hang n g a b ≡ hang_all n g (edges_of (bare ts) (constraint true a b))
    join-on e = sym (joined ∙ rw (eq-eqb (get_or ts a 0) 2 (omega arith), eq-eqb (get_or ts b 0) 2 (omega arith)))

-- ---- what bodies bs join: the first dynamic one
module _ (ts bs : List ℕ) where
  abbrev pub at : ℕ → ℕ
  at i = get_or bs i 0

  dynamics_next : (i : ℕ) → i < length bs → dynamics ts (drop i bs) ≡ cond (dynamic (bare ts) (at i)) (at i ∷ dynamics ts (drop (i + 1) bs)) (dynamics ts (drop (i + 1) bs))
  dynamics_next i h = ap (dynamics ts) (drop-cons bs i 0 h) ∙ ap (λ (n : ℕ). cond (dynamic (bare ts) (at i)) (at i ∷ dynamics ts (drop n bs)) (dynamics ts (drop n bs))) (sym (add-one i))

  dynamics_end : (i : ℕ) → length bs ≤ i → dynamics ts (drop i bs) ≡ []
  dynamics_end i h = ap (dynamics ts) (drop_of_length-le bs {i = i} h)

  abbrev pub below : ℕ → Bool
  below b = ltb b (length ts)

  -- the search for it, at place i
  pub record Searching (i : ℕ) : Type 0 where
    pub skipped : dynamics ts (drop i bs) ≡ dynamics ts bs
    pub inside : all below (drop i bs) ≡ true

  module _ (i : ℕ) (w : Searching i) where
    pub first_none : length bs ≤ i → dynamics ts bs ≡ []
    first_none h = sym w.skipped ∙ dynamics_end i h

    module _ (h : i < length bs) where
      inside_here : (below (at i) && all below (drop (i + 1) bs)) ≡ true
      inside_here = ap (λ (n : ℕ). below (at i) && all below (drop n bs)) (add-one i) ∙ sym (ap (all below) (drop-cons bs i 0 h)) ∙ w.inside

      pub first_turns : (get_or ts (at i) 0 ≡ 2 → ⊥) → Searching (i + 1)
      unfolding dynamic
      first_turns n = record {
        skipped = sym (dynamics_next i h ∙ rw (ne_eqb (get_or ts (at i) 0) 2 n)) ∙ w.skipped;
        inside = and_right (below (at i)) (all below (drop (i + 1) bs)) inside_here;
      }

      pub first_found : get_or ts (at i) 0 ≡ 2 → FirstDynamic ts bs (at i) (drop (i + 1) bs)
      unfolding dynamic
      first_found e = record {
        dynamic_first = eq-eqb (get_or ts (at i) 0) 2 e;
        inside_first = ltb-true (at i) (length ts) (and_left (below (at i)) (all below (drop (i + 1) bs)) inside_here);
        inside_others = and_right (below (at i)) (all below (drop (i + 1) bs)) inside_here;
        parted = sym w.skipped ∙ dynamics_next i h ∙ rw (eq-eqb (get_or ts (at i) 0) 2 e);
      }

-- bodies without a dynamic one join nothing
pub joins_none : (ts bs p : List ℕ) → dynamics ts bs ≡ [] → root_of p ≡ hang_all (length ts) (root_of p) (edges_of (bare ts) (tied true bs))
unfolding edges_of
joins_none ts bs p e = sym (ap (λ (ds : List ℕ). hang_all (length ts) (root_of p) (star ds)) e)

-- it is joined with each later one: the loop, at place i of those behind it
module _ (ts bs : List ℕ) (first : ℕ) (others : List ℕ) (f : FirstDynamic ts bs first others) where
  pub record Starring (s₀ s : BodySets) (i : ℕ) : Type 0 where
    pub kept : Kept s₀ s
    pub long : length s.parents.now ≡ length ts
    pub roots : hang_all (length ts) (root_of s.parents.now) (map (edge first) (dynamics ts (drop i others))) ≡ hang_all (length ts) (root_of s₀.parents.now) (edges_of (bare ts) (tied true bs))

  pub starring_starts : (s : BodySets) → length s.parents.now ≡ length ts → Starring s s 0
  unfolding edges_of
  starring_starts s e = record { kept = kept_here s; long = e; roots = sym (ap (λ (ds : List ℕ). hang_all (length ts) (root_of s.parents.now) (star ds)) f.parted) }

  module _ (s₀ s : BodySets) (i : ℕ) (w : Starring s₀ s i) where
    step : (t u : Bool) (g : ℕ → ℕ) (b : ℕ) (ds : List ℕ) → t ≡ true → hang_all (length ts) (hang_all (length ts) g (star (cond t (first ∷ cond u (b ∷ []) []) (cond u (b ∷ []) [])))) (map (edge first) ds) ≡ hang_all (length ts) g (map (edge first) (cond u (b ∷ ds) ds))
    step t true g b ds e = rw e
    step t false g b ds e = rw e

    pub starring_turns : (s' : BodySets) → i < length others → Kept s s' → root_of s'.parents.now ≡ hang_all (length ts) (root_of s.parents.now) (edges_of (bare ts) (constraint true first (at ts others i))) → Starring s₀ s' (i + 1)
    unfolding edges_of
    starring_turns s' h k q = record {
      kept = kept_on w.kept k;
      long = k.long ∙ w.long;
      roots =
          ap (λ (g : ℕ → ℕ). hang_all (length ts) g (map (edge first) (dynamics ts (drop (i + 1) others)))) q
          ∙ step (dynamic (bare ts) first) (dynamic (bare ts) (at ts others i)) (root_of s.parents.now) (at ts others i) (dynamics ts (drop (i + 1) others)) f.dynamic_first
          ∙ ap (λ (ds : List ℕ). hang_all (length ts) (root_of s.parents.now) (map (edge first) ds)) (sym (dynamics_next ts others i h))
          ∙ w.roots;
    }

    pub starring_ends : length others ≤ i → root_of s.parents.now ≡ hang_all (length ts) (root_of s₀.parents.now) (edges_of (bare ts) (tied true bs))
    starring_ends h = sym (ap (λ (ds : List ℕ). hang_all (length ts) (root_of s.parents.now) (map (edge first) ds)) (dynamics_end ts others i h)) ∙ w.roots

-- ---- one constraint
module _ (ts p l : List ℕ) (t : Bool) (bs : List ℕ) where
  pub joined_dead : t ≡ false → Joined ts (tied t bs ∷ []) p l p l
  unfolding edges edges_of on
  joined_dead e = record { roots = rw e; constrained = λ x. rw e }

-- the two of a list of two
pub two_ends : (bs : List ℕ) → length bs ≡ 2 → bs ≡ get_or bs 0 0 ∷ get_or bs 1 0 ∷ []
two_ends [] h = absurd (omega arith)
two_ends (a ∷ []) h = absurd (omega arith)
two_ends (a ∷ b ∷ []) h = refl
two_ends (a ∷ b ∷ c ∷ bs) h = absurd (omega arith)

-- a live one, on bodies bs
pub joined_live : (ts bs p l p' l' : List ℕ)
    → root_of p' ≡ hang_all (length ts) (root_of p) (edges_of (bare ts) (tied true bs)) → ((x : ℕ) → get_or l' x none ≡ cond (mem x bs) 0 (get_or l x none))
    → Joined ts (tied true bs ∷ []) p l p' l'
unfolding edges on
joined_live ts bs p l p' l' r m = record {
  roots = r ∙ ap (hang_all (length ts) (root_of p)) (sym (append-nil (edges_of (bare ts) (tied true bs))));
  constrained = λ x. m x ∙ ap (λ (u : Bool). cond u 0 (get_or l x none)) (sym (or-false (mem x bs)));
}

-- ---- two lists of constraints together
edges-append : (f : Frame) (cs ds : List Constraint) → edges f (cs ++ ds) ≡ edges f cs ++ edges f ds
unfolding edges
edges-append f cs ds = join_map-append (edges_of f) cs ds

joined_none : (ts p l : List ℕ) → Joined ts [] p l p l
unfolding edges
joined_none ts p l = record { roots = refl; constrained = λ x. refl }

joined_append : (ts : List ℕ) (cs ds : List Constraint) (p₀ l₀ p₁ l₁ p₂ l₂ : List ℕ) → Joined ts cs p₀ l₀ p₁ l₁ → Joined ts ds p₁ l₁ p₂ l₂ → Joined ts (cs ++ ds) p₀ l₀ p₂ l₂
joined_append ts cs ds p₀ l₀ p₁ l₁ p₂ l₂ u v = record {
  roots =
      v.roots
      ∙ ap (λ (g : ℕ → ℕ). hang_all (length ts) g (edges (bare ts) ds)) u.roots
      ∙ sym (hang_all-append (length ts) (root_of p₀) (edges (bare ts) cs) (edges (bare ts) ds))
      ∙ ap (hang_all (length ts) (root_of p₀)) (sym (edges-append (bare ts) cs ds));
  constrained = λ x.
      v.constrained x
      ∙ ap (λ (n : ℕ). cond (any (on x) ds) 0 n) (u.constrained x)
      ∙ cond-or (any (on x) cs) (any (on x) ds) 0 (get_or l₀ x none)
      ∙ ap (λ (t : Bool). cond t 0 (get_or l₀ x none)) (sym (any_append (on x) cs ds));
}

-- the first list has a constraint that does not pass; or all pass, and the second list is tried
module _ {ts : List ℕ} {cs ds : List Constraint} {s₀ : BodySets} {l₀ : List ℕ} {s₁ : BodySets} {l₁ : List ℕ} {r : Bool} (u : JoinedOrRefused ts cs s₀ l₀ s₁ l₁ r) where
  pub tried_both : r ≡ true → {s₂ : BodySets} {l₂ : List ℕ} {r₂ : Bool} → JoinedOrRefused ts ds s₁ l₁ s₂ l₂ r₂ → JoinedOrRefused ts (cs ++ ds) s₀ l₀ s₂ l₂ r₂
  tried_both e v = record {
    kept = kept_on u.kept v.kept;
    answer = v.answer ∙ sym (all_append (sound (length ts)) cs ds ∙ ap (λ (x : Bool). x && all (sound (length ts)) ds) (sym u.answer ∙ e));
    joined = λ t. joined_append _ cs ds _ _ _ _ _ _ (u.joined e) (v.joined t);
  }

-- ---- the loop over constraints cs, of which these are left: those before are done, and passed question 7
pub record Joining (ts : List ℕ) (cs left : List Constraint) (s₀ : BodySets) (l₀ : List ℕ) (s : BodySets) (l : List ℕ) : Type 0 where
  pub kept : Kept s₀ s
  pub long_l : length l ≡ length l₀
  pub done : List Constraint
  pub whole : done ++ left ≡ cs
  pub passed : all (sound (length ts)) done ≡ true
  pub joined : Joined ts done s₀.parents.now l₀ s.parents.now l

pub joining_starts : (ts : List ℕ) (cs : List Constraint) (s : BodySets) (l : List ℕ) → Joining ts cs cs s l s l
joining_starts ts cs s l = record { kept = kept_here s; long_l = refl; done = []; whole = refl; passed = refl; joined = joined_none ts s.parents.now l }

-- the next of them, c, is tried, or none is left
module _ {ts : List ℕ} {cs left : List Constraint} {s₀ : BodySets} {l₀ : List ℕ} {s : BodySets} {l : List ℕ} (w : Joining ts cs left s₀ l₀ s l) where
  asked-both : all (sound (length ts)) cs ≡ all (sound (length ts)) left
  asked-both = ap (all (sound (length ts))) (sym w.whole) ∙ all_append (sound (length ts)) w.done left ∙ rw w.passed

  module _ (c : Constraint) (rest : List Constraint) (e : left ≡ c ∷ rest) {s' : BodySets} {l' : List ℕ} {r : Bool} (j : JoinedOrRefused ts (c ∷ []) s l s' l' r) where
    pub joining_turns : r ≡ true → length l' ≡ length l → Joining ts cs rest s₀ l₀ s' l'
    joining_turns ok el = record {
      kept = kept_on w.kept j.kept;
      long_l = el ∙ w.long_l;
      done = w.done ++ (c ∷ []);
      whole = append_assoc w.done (c ∷ []) rest ∙ ap (λ (ds : List Constraint). w.done ++ ds) (sym e) ∙ w.whole;
      passed = all_append (sound (length ts)) w.done (c ∷ []) ∙ and_both (all (sound (length ts)) w.done) (all (sound (length ts)) (c ∷ [])) w.passed (sym j.answer ∙ ok);
      joined = joined_append ts w.done (c ∷ []) _ _ _ _ _ _ w.joined (j.joined ok);
    }

    pub joining_stops : r ≡ false → JoinedOrRefused ts cs s₀ l₀ s' l' false
    joining_stops bad = record {
      kept = kept_on w.kept j.kept;
      answer = sym (asked-both ∙ ap (all (sound (length ts))) e ∙ ap (λ (t : Bool). t && all (sound (length ts)) rest) (sym (and-true (sound (length ts) c)) ∙ sym j.answer ∙ bad));
      joined = λ t. clashes false t refl;
    }

  pub joining_ends : left ≡ [] → JoinedOrRefused ts cs s₀ l₀ s l true
  joining_ends e =
      let all_done : w.done ≡ cs = sym (append-nil w.done) ∙ ap (λ (ds : List Constraint). w.done ++ ds) (sym e) ∙ w.whole in
      record {
        kept = w.kept;
        answer = sym (ap (all (sound (length ts))) (sym all_done) ∙ w.passed);
        joined = λ t. subst (λ (ds : List Constraint). Joined ts ds s₀.parents.now l₀ s.parents.now l) all_done w.joined;
      }
