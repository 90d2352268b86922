-- `put_turns`: where the places are at hand, the lines so far are put, and the rest is still to be gathered.
use Rattle.std.proofs.Common.{ℕ, ◌≡◌, List}
use Rattle.std.specs.Slice.Iter.{chunks_exact_rest, chunks_exact_size}
use Rattle.writer.specs.declared.Writer.{Writer}
use Rattle.writer.specs.Wrote.{SameBytes}
use Rattle.printing.specs.Turns.{Placed, turns_from}
use Rattle.printing.proofs.Turns.{Gathering}
use Rattle.printing.proofs.put_turns.Given as goal

-- the lines up to turn t are put; what is left begins with it, and goes three entries by three
pub record Gathered (bs ps turns : List ℕ) (first : ℕ) (old new : Writer) (t : ℕ) (rest : List ℕ) (size : ℕ) : Type 0 where
  pub same : SameBytes old new
  pub lines : Placed bs turns ps → Gathering bs turns first old new t
  pub left : turns_from turns t ≡ rest
  pub three : size ≡ 3

abbrev pub invariant-loop-numbers : goal.invariant-loop-numbers
invariant-loop-numbers l =
    Gathered l.frame.bytes.now l.frame.places.now l.turns l.first l.initial.out l.out l.turn (chunks_exact_rest l.numbers-iterator) (chunks_exact_size l.numbers-iterator)
