-- `frame::entries::enabled_known`: the walk passes from place `at` on, and the answer for the entries from there is the answer for all.
use Rattle.std.proofs.Common.{◌-◌, ◌≡◌}
use Rattle.frame.specs.Questions.{bits}
use Rattle.frame.specs.Files.{entries_refusal, live_from}
use Rattle.frame.proofs.entries.enabled_known.Given as goal

abbrev pub invariant-loop-j : goal.invariant-loop-j
invariant-loop-j l = record {
  walked : entries_refusal l.part.bytes.now l.at (l.part.joints - l._j) ≡ 0;
  known : bits (live_from l.part.bytes.now l.at (l.part.joints - l._j)) ≡ bits (live_from l.part.bytes.now l.part.from l.part.joints);
}
