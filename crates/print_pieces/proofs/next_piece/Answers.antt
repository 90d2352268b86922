-- The lines stand at the buffer's start.
use Rattle.std.proofs.Common.{ℕ, List, arith, refl, subst}
use Rattle.print_pieces.specs.Pieces.{NextPiece}
use Rattle.print_pieces.proofs.Pieces.{next_stands, turns_placed}
use Rattle.print_pieces.proofs.next_piece.Goals as goal

pub returns : goal.returns
returns c =
    let l = c.put_lines in
    let a = c.args in
    λ placed.
    let kept = l.ensures.same.kept in
    let piece = next_stands a.frame.now a.turns.now _ l.new.text a.piece l.result refl (omega arith) l.ensures.size
    (l.ensures.lines (turns_placed a.frame.now a.turns.now a.places.now a.piece.turns placed)) in
    subst (λ (o : List ℕ). NextPiece a.frame.now a.turns.now a.out.now a.piece o l.result) (grind (arith, kept)) piece
