-- The sum so far is a remainder.
use Rattle.std.proofs.Common.{◌≤◌}
use Rattle.coloring_limits.proofs.checksum.Given as goal

abbrev pub invariant-loop-x : goal.invariant-loop-x
invariant-loop-x l = l.sum ≤ 65520
