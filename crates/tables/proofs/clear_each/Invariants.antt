-- `tables::clear_each`: the entries at the places passed are 0.
use Rattle.std.proofs.Common.{ℕ, ◌≡◌, cond, get_or, take}
use Rattle.lists.specs.Basics.{mem}
use Rattle.tables.proofs.clear_each.Given as goal

abbrev pub invariant-loop-place : goal.invariant-loop-place
invariant-loop-place l = (none place : ℕ) → get_or l.table place none ≡ cond (mem place (take l.place-index l.places)) 0 (get_or l.initial.table place none)
