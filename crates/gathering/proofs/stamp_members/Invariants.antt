-- `stamp_members`: the endpoints of the members passed are stamped and counted; those of the next are a part of the table.
use Rattle.std.proofs.Common.{take}
use Rattle.lists.specs.Basics.{join_map}
use Rattle.parts.specs.Parts.{part_at}
use Rattle.gathering.specs.Gathers.{Counted}
use Rattle.gathering.proofs.stamp_members.Given as goal

abbrev pub invariant-loop-member : goal.invariant-loop-member
invariant-loop-member l = Counted l.stamp (join_map (part_at l.members.ends.bounds.now l.members.ends.endpoints.now) (take l.member-index l.members.numbers.now)) 0 l.initial.body_stamps l.body_stamps l.count
