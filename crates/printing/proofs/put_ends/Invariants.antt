-- `put_ends`: the endpoints so far are put, and the rest is still to be put.
use Rattle.printing.proofs.Lines.{Ending}
use Rattle.printing.proofs.put_ends.Given as goal

abbrev pub invariant-loop-i : goal.invariant-loop-i
invariant-loop-i l = Ending l.frame l.ends.at l.ends.count l.initial.out l.out l.i
