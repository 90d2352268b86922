-- `note_members`: the endpoints of the members passed are noted; those of the next are a part of the table, and there is room.
use Rattle.std.proofs.Common.{take}
use Rattle.lists.specs.Basics.{join_map}
use Rattle.parts.specs.Parts.{part_at}
use Rattle.gathering.specs.Gatherers.{NotedIn, SameGatherer}
use Rattle.gathering.proofs.Gatherer.note_members.Given as goal

abbrev pub invariant-loop-member : goal.invariant-loop-member
invariant-loop-member l = NotedIn l.stamp (join_map (part_at l.members.ends.bounds.now l.members.ends.endpoints.now) (take l.member-index l.members.numbers.now)) l.fn.self l.self × SameGatherer l.fn.self l.self
