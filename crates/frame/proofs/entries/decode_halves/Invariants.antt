-- `frame::entries::decode_halves`: the numbers filled so far, and those from the k-th on, make up all.
use Rattle.std.proofs.Common.{◌+◌, ◌-◌, ◌*◌, ◌≡◌, ◌++◌, length, take}
use Rattle.frame.specs.Files.{halves_from}
use Rattle.frame.proofs.entries.decode_halves.Given as goal

abbrev pub invariant-loop-k : goal.invariant-loop-k
invariant-loop-k l = take l.k l.halves ++ halves_from l.bytes (l.from + 2 * l.k) (length l.initial.halves - l.k) ≡ halves_from l.bytes l.from (length l.initial.halves)
