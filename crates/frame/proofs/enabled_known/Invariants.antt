-- `frame::enabled_known`: the answer for the joints that are left is the answer for all.
use Rattle.std.proofs.Common.{◌/◌, ◌≡◌, length}
use Rattle.frame.specs.Questions.{bits}
use Rattle.frame.specs.Files.{enabled_from}
use Rattle.frame.proofs.enabled_known.Given as goal

abbrev pub invariant-loop-joint : goal.invariant-loop-joint
invariant-loop-joint l = record {
  size : l.joint-iterator.size ≡ 5;
  known : bits (enabled_from l.joint-iterator.rest.now 0 (length l.joint-iterator.rest.now / 5)) ≡ bits (enabled_from l.joints 0 (length l.joints / 5));
}
