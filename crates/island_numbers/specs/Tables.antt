-- The label tables as one list.
use Rattle.std.specs.Prelude.{ℕ, List, ◌++◌}
use Rattle.island_numbers.specs.declared.IslandLabels.{IslandLabels}

-- the labels of all constraints: manifolds, then joints
abbrev pub labels_of : IslandLabels → List ℕ
labels_of l = l.manifolds.now ++ l.joints.now
