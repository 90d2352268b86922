-- Above the limit the answer is refusal 3; else it is the run's, whose turn table has room.
use Rattle.std.proofs.Common.{arith}
use Rattle.print_pieces.proofs.Answers.{run_answered, long_answered}
use Rattle.print_pieces.proofs.answer_to.Goals as goal

pub returns-then-frame-gt-MAX_BYTES : goal.returns-then-frame-gt-MAX_BYTES
returns-then-frame-gt-MAX_BYTES c = long_answered c.args.frame.now c.args.turns.now (omega arith)

pub returns : goal.returns
returns c = run_answered c.args.frame.now c.args.turns.now _ _ (omega arith) (omega arith) c.run_file.ensures
