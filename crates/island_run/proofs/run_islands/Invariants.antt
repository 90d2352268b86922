-- `run_islands`: the islands done and those from `island` on are all islands; each turn reads the next part of the sorted numbers, and of the
-- endpoints and counts that are collected in their order. The tables keep their lengths, so there is room for every island.
use Rattle.std.proofs.Common.{◌-◌, ◌≡◌}
use Rattle.lists.specs.Basics.{join_map, range_from}
use Rattle.plan_questions.specs.Lent.{tables_in, lengths_of, SameTables}
use Rattle.group_run.proofs.Appends.{Going}
use Rattle.island_numbers.specs.Tables.{labels_of}
use Rattle.island_run.specs.Islands.{calls_at}
use Rattle.island_run.specs.Views.{calls_of_frame}
use Rattle.island_run.proofs.Loop.{start_of, ends_before}
use Rattle.island_run.proofs.run_islands.Given as goal

abbrev pub invariant-loop-island : goal.invariant-loop-island
invariant-loop-island l = (l.start ≡ start_of l.islands (labels_of l.filled.labels) l.island)
    × (l.ends_start ≡ ends_before l.filled.counts.now l.filled.ends.now l.filled.numbers.now l.start)
    × Going (calls_of_frame l.filled l.islands)
    (join_map (calls_at l.filled.types.now l.filled.flags.now l.filled.counts.now l.filled.ends.now (labels_of l.filled.labels)) (range_from l.island (l.islands - l.island))) l.initial.table l.table
    × SameTables l.fn.tables l.tables
    × (lengths_of (tables_in l.tables) ≡ lengths_of (tables_in l.fn.tables))
