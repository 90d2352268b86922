-- The takes of all islands of a filled frame.
use Rattle.std.specs.Prelude.{ℕ, List}
use Rattle.schedules.specs.Runs.{Call}
use Rattle.island_numbers.specs.Tables.{labels_of}
use Rattle.island_run.specs.declared.filled.FilledFrame.{FilledFrame}
use Rattle.island_run.specs.Islands.{calls_of}

abbrev pub calls_of_frame : FilledFrame → ℕ → List Call
calls_of_frame f islands = calls_of f.types.now f.flags.now f.counts.now f.ends.now (labels_of f.labels) islands
