-- `number_at`: the digits left, behind the value, spell the field's number.
use Rattle.lift_line.proofs.Numbers.{NumberRead}
use Rattle.lift_line.proofs.number_at.Given as goal

abbrev pub invariant-loop-read : goal.invariant-loop-read
invariant-loop-read l = NumberRead l.text l.at l.value l.read
