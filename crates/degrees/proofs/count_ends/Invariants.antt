-- `count_ends`: what is counted and what the endpoints from there on count make the whole.
use Rattle.std.proofs.Common.{ℕ, ◌+◌, ◌<◌, ◌≡◌, length, get_or, drop}
use Rattle.degrees.specs.Counts.{added}
use Rattle.degrees.proofs.count_ends.Given as goal

abbrev pub invariant-loop-end : goal.invariant-loop-end
invariant-loop-end l = ((b : ℕ) → b < length l.counts → get_or l.counts b 0 + added l.amount (drop l.end-index l.ends) b ≡ get_or l.initial.counts b 0 + added l.amount l.ends b)
