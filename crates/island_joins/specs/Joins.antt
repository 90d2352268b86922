-- What joining constraints leaves.
use Rattle.std.specs.Prelude.{ℕ, ◌≡◌, ◌<◌, Bool, true, cond, List, ◌∷◌, ltb, length, get_or}
use Rattle.lists.specs.Basics.{filter, any, all}
use Rattle.frame.specs.Frames.{Constraint, dynamic, on, sound, none}
use Rattle.connected_sets.specs.Islands.{edges, hang_all}
use Rattle.island_sets.specs.Sets.{root_of}
use Rattle.island_sets.specs.declared.BodySets.{BodySets}
use Rattle.island_sets.specs.Kept.{Kept}
use Rattle.island_labels.specs.Labels.{bare}

-- as many parents and labels as bodies
pub record Fit (ts : List ℕ) (s : BodySets) (l : List ℕ) : Type 0 where
  pub long_parents : length s.parents.now ≡ length ts
  pub long_bodies : length l ≡ length ts

-- the dynamic ones of the bodies bs
abbrev pub dynamics : List ℕ → List ℕ → List ℕ
dynamics ts bs = filter (dynamic (bare ts)) bs

-- the first dynamic one of bs is `first`, and `others` stand behind it
pub record FirstDynamic (ts bs : List ℕ) (first : ℕ) (others : List ℕ) : Type 0 where
  pub dynamic_first : dynamic (bare ts) first ≡ true
  pub inside_first : first < length ts
  pub inside_others : all (λ b. ltb b (length ts)) others ≡ true
  pub parted : dynamics ts bs ≡ first ∷ dynamics ts others

-- the constraints cs join the sets of p₀, in order, and constrain the bodies that they are on in l₀
pub record Joined (ts : List ℕ) (cs : List Constraint) (p₀ l₀ p l : List ℕ) : Type 0 where
  pub roots : root_of p ≡ hang_all (length ts) (root_of p₀) (edges (bare ts) cs)
  pub constrained : (x : ℕ) → get_or l x none ≡ cond (any (on x) cs) 0 (get_or l₀ x none)

-- r says whether all of them pass question 7; where one does not, the tables are left anyhow
pub record JoinedOrRefused (ts : List ℕ) (cs : List Constraint) (s₀ : BodySets) (l₀ : List ℕ) (s : BodySets) (l : List ℕ) (r : Bool) : Type 0 where
  pub kept : Kept s₀ s
  pub answer : r ≡ all (sound (length ts)) cs
  pub joined : r ≡ true → Joined ts cs s₀.parents.now l₀ s.parents.now l
