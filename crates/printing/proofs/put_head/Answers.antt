-- `put_head`: where there is room, four fields one behind the other.
use Rattle.std.proofs.Common.{sym, arith, leb-true, length, ◌+◌, length-append, ◌++◌}
use Rattle.schedules.specs.Print.{head_of, islands_word, turns_word, takes_word, degree_word}
use Rattle.print_fields.specs.Puts.{longest}
use Rattle.print_fields.proofs.Fields.{field, field_short}
use Rattle.writer.proofs.Writes.{wrote_then}
use Rattle.printing.proofs.Lines.{no_room, with_room, head_fields}
use Rattle.printing.proofs.put_head.Goals as goal

pub returns-then-not-has_room : goal.returns-then-not-has_room
returns-then-not-has_room c =
    let a = c.args in
    no_room _ (head_of a.islands a.turns a.takes a.degree) a.out.now (sym c.if-not-has_room.ensures)

pub put_field-requires-2 : goal.put_field-requires-2
put_field-requires-2 c =
    let a = c.args in
    let room = leb-true (a.out.now.at + longest) (length a.out.now.out.now) (sym c.if-not-has_room.ensures) in
    omega (arith, room, field_short islands_word a.islands 32, c.put_field.ensures.next, c.put_field.ensures.long)

pub put_field-requires-3 : goal.put_field-requires-3
put_field-requires-3 c =
    let a = c.args in
    let room = leb-true (a.out.now.at + longest) (length a.out.now.out.now) (sym c.if-not-has_room.ensures) in
    omega (
      arith,
      room,
      field_short islands_word a.islands 32,
      field_short turns_word a.turns 32,
      c.put_field.ensures.next,
      c.put_field.ensures.long,
      c.put_field-2.ensures.next,
      c.put_field-2.ensures.long,
    )

pub put_field-requires-4 : goal.put_field-requires-4
put_field-requires-4 c =
    let a = c.args in
    let room = leb-true (a.out.now.at + longest) (length a.out.now.out.now) (sym c.if-not-has_room.ensures) in
    omega (
      arith,
      room,
      field_short islands_word a.islands 32,
      field_short turns_word a.turns 32,
      field_short takes_word a.takes 32,
      c.put_field.ensures.next,
      c.put_field.ensures.long,
      c.put_field-2.ensures.next,
      c.put_field-2.ensures.long,
      c.put_field-3.ensures.next,
      c.put_field-3.ensures.long,
    )

pub returns : goal.returns
returns c =
    let a = c.args in
    let room = leb-true (a.out.now.at + longest) (length a.out.now.out.now) (sym c.if-not-has_room.ensures) in
    let i = field islands_word a.islands 32 in
    let t = field turns_word a.turns 32 in
    let k = field takes_word a.takes 32 in
    let si = field_short islands_word a.islands 32 in
    let st = field_short turns_word a.turns 32 in
    let sk = field_short takes_word a.takes 32 in
    let two = wrote_then c.put_field.ensures c.put_field-2.ensures (omega (arith, room, si, st)) in
    let three = wrote_then two c.put_field-3.ensures (omega (arith, room, si, st, sk, length-append i t)) in
    let four = wrote_then three c.put_field-4.ensures (omega (arith, room, si, st, sk, length-append i t, length-append (i ++ t) k, field_short degree_word a.degree 10)) in
    with_room _ _ (head_of a.islands a.turns a.takes a.degree) a.out.now _ (sym c.if-not-has_room.ensures) (head_fields a.islands a.turns a.takes a.degree) four
