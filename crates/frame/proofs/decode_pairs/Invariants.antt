-- `frame::decode_pairs`: the entries filled so far, and the pairs from `at` on, make up all.
use Rattle.std.proofs.Common.{◌+◌, ◌-◌, ◌*◌, ◌/◌, ◌≤◌, ◌≡◌, ◌++◌, length, take}
use Rattle.frame.specs.Files.{pairs_from}
use Rattle.frame.proofs.decode_pairs.Given as goal

abbrev pub invariant-loop-k : goal.invariant-loop-k
invariant-loop-k l = (l.at + l.step * (length l.initial.pairs / 2 - l.k) ≤ length l.bytes) × (take (2 * l.k) l.pairs ++ pairs_from l.bytes l.at l.step (length l.initial.pairs / 2 - l.k) ≡ pairs_from l.bytes l.from l.step (length l.initial.pairs / 2))
