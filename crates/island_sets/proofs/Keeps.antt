-- Sets of bodies that stay in their tables.
use Rattle.std.proofs.Common.{refl, ◌∙◌}
use Rattle.island_sets.specs.declared.BodySets.{BodySets}
use Rattle.island_sets.specs.Kept.{Kept}

pub kept_here : (s : BodySets) → Kept s s
kept_here s = record { parents = refl; sizes = refl; long = refl }

pub kept_on : {r s t : BodySets} → Kept r s → Kept s t → Kept r t
kept_on a b = record { parents = b.parents ∙ a.parents; sizes = b.sizes ∙ a.sizes; long = b.long ∙ a.long }
