-- `frame::entries::decode`: what is filled so far, and the entries from place `at` on, make up all. The walk passes from there on, so the
-- next entry lies inside the file, and its places inside the table of endpoints.
use Rattle.std.proofs.Common.{◌+◌, ◌-◌, ◌≡◌, ◌++◌, length, take}
use Rattle.frame.specs.Files.{entries_refusal, counts_from, ends_from, live_from}
use Rattle.frame.proofs.entries.decode.Given as goal

abbrev pub invariant-loop-j : goal.invariant-loop-j
invariant-loop-j l = record {
  ends_long : length l.ends ≡ length l.initial.ends;
  counts_long : length l.counts ≡ length l.initial.enabled;
  walked : entries_refusal l.bytes l.at (length l.initial.enabled - l.j) ≡ 0;
  room : l.k + length (ends_from l.bytes l.at (length l.initial.enabled - l.j)) ≡ length l.initial.ends;
  ends : take l.k l.ends ++ ends_from l.bytes l.at (length l.initial.enabled - l.j) ≡ ends_from l.bytes l.from (length l.initial.enabled);
  counts : take l.j l.counts ++ counts_from l.bytes l.at (length l.initial.enabled - l.j) ≡ counts_from l.bytes l.from (length l.initial.enabled);
  enabled : take l.j l.enabled ++ live_from l.bytes l.at (length l.initial.enabled - l.j) ≡ live_from l.bytes l.from (length l.initial.enabled);
}
