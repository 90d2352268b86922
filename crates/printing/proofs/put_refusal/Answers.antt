-- `put_refusal`: one field, where there is room.
use Rattle.std.proofs.Common.{sym}
use Rattle.schedules.specs.Print.{refusal_line}
use Rattle.printing.proofs.Lines.{no_room, with_room, refusal-field}
use Rattle.printing.proofs.put_refusal.Goals as goal

pub returns-then-not-has_room : goal.returns-then-not-has_room
returns-then-not-has_room c = no_room _ (refusal_line c.args.number) c.args.out.now (sym c.if-not-has_room.ensures)

pub returns : goal.returns
returns c = with_room _ _ (refusal_line c.args.number) c.args.out.now _ (sym c.if-not-has_room.ensures) (refusal-field c.args.number) c.put_field.ensures
