-- `list_few`: the part that the notes appended, sorted, is the group; the places around it are kept.
use Rattle.std.proofs.Common.{refl, arith}
use Rattle.gathering.proofs.Arranges.{end_inside, sort_room, sorted_listed}
use Rattle.gathering.proofs.Gatherer.list_few.Goals as goal

pub sort_part-requires-clause-inside : goal.sort_part-requires-clause-inside
sort_part-requires-clause-inside c =
    let w = c.note_members.ensures in
    (omega (arith, w.noted.counted.counted), omega (arith, end_inside c.requires w.noted.counted, w.same.bodies_long))

pub sort_part-requires-clause-room : goal.sort_part-requires-clause-room
sort_part-requires-clause-room c =
    let w = c.note_members.ensures in
    omega (arith, sort_room c.requires w.noted, c.note_members.new.self.room)

pub returns-clause-listed : goal.returns-clause-listed
returns-clause-listed c = rw c.sort_part.ensures (sorted_listed c.requires c.note_members.ensures.noted _ refl)
