-- `gather`: the groups before `color` are listed, with their starts, and no stamp is above `color`. The constraints are parts of the
-- endpoint list.
use Rattle.std.proofs.Common.{length}
use Rattle.parts.specs.Parts.{parts_at}
use Rattle.gathering.specs.Gatherers.{SameGatherer}
use Rattle.gathering.proofs.Groups.{Gathering}
use Rattle.gathering.proofs.gather.Given as goal

abbrev pub invariant-loop-color : goal.invariant-loop-color
invariant-loop-color l = Gathering (length l.initial.listing.body_stamps.now) (parts_at (length l.constraint_colors) l.ends.bounds.now l.ends.endpoints.now) l.constraint_colors l.color_count l.initial.listing.scratch_offsets.now l.initial.color_body_offsets l.initial.listing.color_bodies.now l.listing.body_stamps.now l.listing.scratch_offsets.now l.color_body_offsets l.listing.color_bodies.now l.listing.end l.color
    × SameGatherer l.initial.listing l.listing
