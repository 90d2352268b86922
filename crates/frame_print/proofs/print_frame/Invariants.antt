-- `print_frame` is safe and ends: each piece ends in the buffer and leaves less to do than the one before.
use Rattle.std.proofs.Common.{◌≤◌, length}
use Rattle.print_pieces.specs.Pieces.{PiecePlaced}
use Rattle.print_pieces.proofs.Pieces.{work}
use Rattle.frame_print.proofs.print_frame.Given as goal

abbrev pub invariant-loop-piece : goal.invariant-loop-piece
invariant-loop-piece l = record {
  size : l.piece.size ≤ length l.out;
  placed : PiecePlaced l.frame l.piece l.places;
}

abbrev pub decreases-loop-piece : goal.decreases-loop-piece
decreases-loop-piece l = work l.turns l.piece
