-- `note_part`: the bodies passed are noted; each appends at most one, so there is room.
use Rattle.std.proofs.Common.{take}
use Rattle.gathering.specs.Gatherers.{NotedIn, SameGatherer}
use Rattle.gathering.proofs.Gatherer.note_part.Given as goal

abbrev pub invariant-loop-body : goal.invariant-loop-body
invariant-loop-body l = NotedIn l.stamp (take l.body-index l.bodies) l.fn.self l.self × SameGatherer l.fn.self l.self
