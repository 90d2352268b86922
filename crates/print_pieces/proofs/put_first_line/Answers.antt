-- A head or a refusal is put at the buffer's start, where there is room.
use Rattle.std.proofs.Common.{sym, ap}
use Rattle.print_pieces.specs.Pieces.{answer_line}
use Rattle.print_pieces.proofs.Pieces.{put-line}
use Rattle.print_pieces.proofs.put_first_line.Goals as goal

pub returns-in-Err : goal.returns-in-Err
returns-in-Err c = put-line _ _ c.args.text.now _ (ap answer_line (sym c.in-Err.is)) c.requires (rw (c.from.ensures, c.number.ensures) at c.put_refusal.ensures)

pub returns-in-Ok : goal.returns-in-Ok
returns-in-Ok c = put-line _ _ c.args.text.now _ (ap answer_line (sym c.in-Ok.is)) c.requires c.put_head.ensures
