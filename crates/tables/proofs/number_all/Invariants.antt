-- `tables::number_all` meets its contract. The numbers that are written and those to come make up all.
use Rattle.std.proofs.Common.{◌-◌, ◌≡◌, ◌++◌, length, take}
use Rattle.lists.specs.Basics.{range_from, range}
use Rattle.tables.proofs.number_all.Given as goal

abbrev pub invariant-loop-place : goal.invariant-loop-place
invariant-loop-place l = take l.place l.table ++ range_from l.place (length l.table - l.place) ≡ range (length l.table)
