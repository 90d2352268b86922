-- The table is the entries of the positions read so far, and then `none`.
use Rattle.std.proofs.Common.{◌≡◌, take}
use Rattle.colored_bodies.specs.Lent.{entries_at}
use Rattle.colored_bodies.proofs.multi.entries_at.Given as goal

abbrev pub invariant-loop-i : goal.invariant-loop-i
invariant-loop-i g l = l.entries ≡ entries_at l.fn.none l.table (take l.i l.positions)
