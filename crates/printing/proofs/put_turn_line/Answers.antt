-- `put_turn_line`: where there is room, three numbers and the endpoints one behind the other.
use Rattle.std.proofs.Common.{sym, ◌++◌, arith, length, length-append}
use Rattle.frame.specs.Files.{halves_from}
use Rattle.schedules.specs.Print.{turn_line}
use Rattle.print_fields.proofs.Fields.{number, number_short}
use Rattle.writer.proofs.Writes.{wrote_then}
use Rattle.printing.proofs.Lines.{no_room, with_room, room_for_turn, ends_short, turn_fields}
use Rattle.printing.proofs.put_turn_line.Goals as goal

pub returns-then-not-has_room-clause-wrote : goal.returns-then-not-has_room-clause-wrote
returns-then-not-has_room-clause-wrote c =
    let a = c.args in
    no_room _ (turn_line a.turn.island a.turn.group a.turn.number (halves_from a.frame.now a.ends.at a.ends.count)) a.out.now (rw c.turn_most.ensures at (sym c.if-not-has_room.ensures))

pub put_number-requires : goal.put_number-requires
put_number-requires c =
    let a = c.args in
    let room = room_for_turn a.ends.count a.out.now.at (length a.out.now.out.now) c.turn_most.ensures a.ends.few.1 (sym c.if-not-has_room.ensures) in
    omega (arith, room)

pub put_number-requires-2 : goal.put_number-requires-2
put_number-requires-2 c =
    let a = c.args in
    let room = room_for_turn a.ends.count a.out.now.at (length a.out.now.out.now) c.turn_most.ensures a.ends.few.1 (sym c.if-not-has_room.ensures) in
    let p = c.put_number.ensures in
    omega (arith, room, number_short c.from.result 32, p.next, p.long)

pub put_number-requires-3 : goal.put_number-requires-3
put_number-requires-3 c =
    let a = c.args in
    let room = room_for_turn a.ends.count a.out.now.at (length a.out.now.out.now) c.turn_most.ensures a.ends.few.1 (sym c.if-not-has_room.ensures) in
    let p = c.put_number.ensures in
    let q = c.put_number-2.ensures in
    omega (arith, room, number_short c.from.result 32, number_short c.from-2.result 32, p.next, p.long, q.next, q.long)

pub put_ends-requires : goal.put_ends-requires
put_ends-requires c =
    let a = c.args in
    let room = room_for_turn a.ends.count a.out.now.at (length a.out.now.out.now) c.turn_most.ensures a.ends.few.1 (sym c.if-not-has_room.ensures) in
    let p = c.put_number.ensures in
    let q = c.put_number-2.ensures in
    let r = c.put_number-3.ensures in
    omega (arith, room, number_short c.from.result 32, number_short c.from-2.result 32, number_short c.from-3.result 32, p.next, p.long, q.next, q.long, r.next, r.long)

pub returns-clause-wrote : goal.returns-clause-wrote
returns-clause-wrote c =
    let a = c.args in
    let room = room_for_turn a.ends.count a.out.now.at (length a.out.now.out.now) c.turn_most.ensures a.ends.few.1 (sym c.if-not-has_room.ensures) in
    let i = number c.from.result 32 in
    let k = number c.from-2.result 32 in
    let n = number c.from-3.result 32 in
    let si = number_short c.from.result 32 in
    let sk = number_short c.from-2.result 32 in
    let sn = number_short c.from-3.result 32 in
    let two = wrote_then c.put_number.ensures c.put_number-2.ensures (omega (arith, room, si, sk)) in
    let three = wrote_then two c.put_number-3.ensures (omega (arith, room, si, sk, sn, length-append i k)) in
    let four = wrote_then three c.put_ends.ensures (omega (arith, room, si, sk, sn, length-append i k, length-append (i ++ k) n, ends_short a.frame.now a.ends.at a.ends.count (omega (arith, a.ends.few.0)))) in
    with_room _ _ (turn_line a.turn.island a.turn.group a.turn.number (halves_from a.frame.now a.ends.at a.ends.count)) a.out.now _ (rw c.turn_most.ensures at (sym c.if-not-has_room.ensures))
    (rw (c.from.ensures, c.from-2.ensures, c.from-3.ensures) (turn_fields a.frame.now a.ends.at a.ends.count (omega (arith, a.ends.few.0)) a.turn.island a.turn.group a.turn.number)) four
