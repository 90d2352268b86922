-- `frame::entries::entry_places`: the places filled so far, and those of the entries from place `at` on, make up all.
use Rattle.std.proofs.Common.{◌-◌, ◌≡◌, ◌++◌, length, take}
use Rattle.frame.specs.Files.{entries_refusal, places_from, joints_at, count_j}
use Rattle.frame.proofs.entries.entry_places.Given as goal

abbrev pub invariant-loop-place : goal.invariant-loop-place
invariant-loop-place l = record {
  walked : entries_refusal l.bytes l.at (length l.initial.places - l.place-index) ≡ 0;
  places : take l.place-index l.places ++ places_from l.bytes l.at (length l.initial.places - l.place-index) ≡ places_from l.bytes (joints_at l.bytes) (count_j l.bytes);
}
