use Rattle.std.proofs.Common.{arith}
use Rattle.print_pieces.proofs.Pieces.{less_work}
use Rattle.frame_print.proofs.print_frame.Goals as goal

pub loop-piece-smaller : goal.loop-piece-smaller
loop-piece-smaller c = less_work _ _ (c.next_piece-piece.ensures c.loop-piece.invariant.placed) (omega arith)
