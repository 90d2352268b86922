-- Every constraint is uncolored when color 0 is opened; `Walks` (proofs/Walks) holds whenever a color is opened. A color is opened only where
-- a constraint is promised it or a higher one, so no more colors are opened than there are groups.
use Rattle.std.proofs.Common.{◌-◌, length}
use Rattle.groups.specs.Groups.{colors_of, group_count}
use Rattle.parts.specs.Parts.{parts_at}
use Rattle.coloring.proofs.Walks.{Walks}
use Rattle.coloring.proofs.color_constraints.Given as goal

abbrev pub invariant-colors : goal.invariant-colors
invariant-colors l = Walks l.dynamic_bodies (parts_at (length l.initial.constraint_colors) l.ends.bounds.now l.ends.endpoints.now) (length l.initial.constraint_colors) l.color l.uncolored_count l.initial.color_offsets l.remaining l.constraint_colors l.color_offsets l.colored_constraints l.busy_bodies

abbrev pub decreases-colors : goal.decreases-colors
decreases-colors l = group_count (colors_of l.dynamic_bodies (parts_at (length l.initial.constraint_colors) l.ends.bounds.now l.ends.endpoints.now)) - l.color
