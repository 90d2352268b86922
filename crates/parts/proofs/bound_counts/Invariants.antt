-- The bounds of the constraints passed stand, and `end` is how many endpoints they have.
use Rattle.std.proofs.Common.{◌≡◌}
use Rattle.parts.specs.Steps.{ends_before}
use Rattle.parts.proofs.Bounds.{BoundsUpTo}
use Rattle.parts.proofs.bound_counts.Given as goal

abbrev pub invariant-loop-constraint : goal.invariant-loop-constraint
invariant-loop-constraint l = (l.end ≡ ends_before l.counts l.constraint) × BoundsUpTo l.counts l.bounds l.constraint
