-- The islands of a schedule, as they are read from the tables that an islands call leaves.
use Rattle.std.specs.Prelude.{ℕ, ◌-◌, ◌≡◌, cond, List, ltb, eqb, length, get_or}
use Rattle.lists.specs.Basics.{filter}
use Rattle.frame.specs.Frames.{Frame, numbers, none}
use Rattle.connected_sets.specs.Islands.{island_count, of_island}
use Rattle.island.specs.Calls.{IslandTables, Built}

-- the label of constraint n: in the manifold labels at n, in the joint labels at n - M
unfoldable pub label_in : Frame → List ℕ → List ℕ → ℕ → ℕ
label_in f manifold_labels joint_labels n =
    cond (ltb n (length f.manifolds)) (get_or manifold_labels n none) (get_or joint_labels (n - length f.manifolds) none)

-- the constraints with label i, in rising number
unfoldable pub labelled : Frame → List ℕ → List ℕ → ℕ → List ℕ
labelled f manifold_labels joint_labels i = filter (λ n. eqb i (label_in f manifold_labels joint_labels n)) (numbers f)

-- the count and the constraints of each island, read from the answer and the tables, are the definition's
pub record IslandsRead (f : Frame) (manifold_labels joint_labels : List ℕ) (islands : ℕ) : Type 0 where
  pub count : islands ≡ island_count f
  pub members : (i : ℕ) → labelled f manifold_labels joint_labels i ≡ of_island f i

-- after every accepted islands call, whatever its tables held before
abbrev pub IslandsAreRead : Type 0
IslandsAreRead = (f : Frame) (t u : IslandTables) (number islands : ℕ) → Built f 0 t u number islands → IslandsRead f u.manifold_islands u.joint_islands islands
