-- `frame::entries::walk`: the refusal of the walk from place `at` on is that of the whole walk, and the endpoints counted so far and those
-- still to come make up all. An entry that passes lies inside the file, so no place and no sum wraps.
use Rattle.std.proofs.Common.{◌≤◌, ◌+◌, ◌-◌, ◌≡◌, length}
use Rattle.frame.specs.Files.{entries_refusal, ends_from}
use Rattle.frame.proofs.entries.walk.Given as goal

abbrev pub invariant-loop-j : goal.invariant-loop-j
invariant-loop-j l = record {
  inside : l.at ≤ length l.part.bytes.now;
  few : l.ends ≤ l.at;
  refusal : entries_refusal l.part.bytes.now l.at (l.part.joints - l._j) ≡ entries_refusal l.part.bytes.now l.part.from l.part.joints;
  ends : l.ends + length (ends_from l.part.bytes.now l.at (l.part.joints - l._j)) ≡ length (ends_from l.part.bytes.now l.part.from l.part.joints);
}
