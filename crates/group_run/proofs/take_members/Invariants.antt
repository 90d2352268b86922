-- `take_members`: the members done and those from the index on are the whole group; each turn of the loop takes the next from the marks as they stand.
use Rattle.std.proofs.Common.{drop}
use Rattle.group_run.specs.Views.{taken_from}
use Rattle.group_run.specs.Appends.{marks_of, SameLent}
use Rattle.group_run.proofs.Appends.{Going}
use Rattle.group_run.proofs.take_members.Given as goal

abbrev pub invariant-loop-rank : goal.invariant-loop-rank
invariant-loop-rank l =
    Going (taken_from l.planned l.group (marks_of l.fn.marks) l.members)
    (taken_from l.planned l.group (marks_of l.marks) (drop l.rank-index l.members)) l.fn.turns l.turns × SameLent l.fn.marks l.marks
