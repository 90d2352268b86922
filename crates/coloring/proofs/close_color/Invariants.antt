-- The members passed have the color, and their bodies are not busy.
use Rattle.std.proofs.Common.{length, take}
use Rattle.parts.specs.Parts.{parts_at}
use Rattle.coloring.specs.Steps.{Closed}
use Rattle.coloring.proofs.close_color.Given as goal

abbrev pub invariant-loop-member : goal.invariant-loop-member
invariant-loop-member l = Closed (parts_at (length l.initial.constraint_colors) l.ends.bounds.now l.ends.endpoints.now) l.color (take l.member-index l.members) l.initial.constraint_colors l.initial.busy_bodies l.constraint_colors l.busy_bodies
