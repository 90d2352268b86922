-- Both loops keep what `Passed` (proofs/Passing) says of the constraints passed; in the inner one `busy` is 1 if a body looked at is busy.
-- A late walk passes a constraint at its first busy body; any other is passed without a branch, by the bit of all its bodies.
use Rattle.std.proofs.Common.{◌≡◌, length, take}
use Rattle.lists.specs.Basics.{one}
use Rattle.parts.specs.Parts.{parts_at}
use Rattle.coloring.proofs.Passing.{barred, Passed}
use Rattle.coloring.proofs.walk.Given as goal

abbrev pub invariant-walk : goal.invariant-walk
invariant-walk l = Passed l.dynamic_bodies (parts_at (length l.initial.colored_constraints) l.ends.bounds.now l.ends.endpoints.now) l.color l.start l.initial.remaining l.initial.colored_constraints l.remaining l.colored_constraints l.busy_bodies l.left l.end l.passed

abbrev pub invariant-bodies : goal.invariant-bodies
invariant-bodies l = (l.remaining ≡ l.initial.remaining) × (l.left ≡ l.initial.left) × (l.busy ≡ one (barred l.busy_bodies (take l.body-index l.bodies)))
