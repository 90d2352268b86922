-- `frame::decode_enabled`: the bytes filled so far, and those of the joints that are left, make up all.
use Rattle.std.proofs.Common.{◌+◌, ◌*◌, ◌/◌, ◌≡◌, ◌++◌, length, take}
use Rattle.frame.specs.Files.{enabled_from}
use Rattle.frame.proofs.decode_enabled.Given as goal

abbrev pub invariant-loop-j : goal.invariant-loop-j
invariant-loop-j l = record {
  size : l.j-iterator.iter.size ≡ 5;
  left : 5 * l.j-iterator.count + length l.j-iterator.iter.rest.now ≡ 5 * length l.initial.enabled;
  long : length l.enabled ≡ length l.initial.enabled;
  filled : take l.j-iterator.count l.enabled ++ enabled_from l.j-iterator.iter.rest.now 0 (length l.j-iterator.iter.rest.now / 5) ≡ enabled_from l.joints 0 (length l.initial.enabled);
}
