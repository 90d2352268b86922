-- The refusal and the marks of the places from i on, taken from the marks as they stand, are those of all, taken from the marks at entry.
use Rattle.std.proofs.Common.{◌≡◌, drop}
use Rattle.colored_bodies.specs.Bindings.{refusal_from, marks_from}
use Rattle.colored_bodies.proofs.Positions.{gone}
use Rattle.colored_bodies.proofs.multi.take_each.Given as goal

abbrev pub invariant-loop-i : goal.invariant-loop-i
invariant-loop-i l = (refusal_from (gone l.i) l.marks (drop l.i l.places) ≡ refusal_from 10 l.fn.marks l.places) × (marks_from l.marks (drop l.i l.places) ≡ marks_from l.fn.marks l.places)
