-- The first line stands at the buffer's start, and the lines behind it. Where there are turns the file was accepted, and its joints' places
-- are in their table.
use Rattle.std.proofs.Common.{ℕ, List, ap, arith, ◌∙◌, refl, subst}
use Rattle.run_answer.specs.declared.Report.{Report}
use Rattle.run_answer.proofs.Reports.{report_unwrapped}
use Rattle.print_pieces.specs.Pieces.{FirstPiece}
use Rattle.print_pieces.proofs.Answers.{turns_asked}
use Rattle.print_pieces.proofs.Pieces.{first_stands, turns_placed}
use Rattle.print_pieces.proofs.first_piece.Goals.{then-count-gt0, else-count-gt0}
use Rattle.print_pieces.proofs.first_piece.Goals as goal

pub place_joints-requires : goal.place_joints-requires
place_joints-requires c =
    let count = ap (λ (r : Report). r.turns) (report_unwrapped _ _ c.unwrap_or_default-count.ensures) ∙ c.answer_to-answer.ensures.turns in
    turns_asked c.args.frame.now (omega (arith, count, c.if-count-gt0.true))

pub returns-clause-placed : goal.returns-clause-placed
returns-clause-placed c =
    λ some v. elim c.if-count-gt0.branch [ then-count-gt0 w ↦ rw w.places-is (w.place_joints.ensures v) | else-count-gt0 w ↦ absurd (omega (arith, some, c.put_lines.ensures.size.1, w.if-count-gt0.false)) ]

pub returns-clause-piece : goal.returns-clause-piece
returns-clause-piece c =
    let a = c.answer_to-answer in
    let n = c.unwrap_or_default-count in
    let f = c.put_first_line in
    let l = c.put_lines in
    let placed =
    turns_placed c.args.frame.now a.new.turns c.if-count-gt0.places n.result.turns
    (λ some v. elim c.if-count-gt0.branch [ then-count-gt0 w ↦ rw w.places-is (w.place_joints.ensures v) | else-count-gt0 w ↦ absurd (omega (arith, some, w.if-count-gt0.false)) ])
    in
    let kept = l.ensures.same.kept ∙ f.ensures.kept in
    let piece = first_stands c.args.frame.now c.args.turns.now a.new.turns _ f.new.text l.new.text a.result n.result.turns l.result
    refl (omega arith) a.ensures (ap (λ (r : Report). r.turns) (report_unwrapped _ _ n.ensures)) f.ensures l.ensures.size (l.ensures.lines placed) in
    subst (λ (o : List ℕ). FirstPiece c.args.frame.now c.args.turns.now c.args.out.now a.new.turns o l.result) (grind (arith, kept)) piece
