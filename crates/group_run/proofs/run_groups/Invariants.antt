-- `run_groups`: the groups done and those from `group` on are the whole plan.
use Rattle.std.proofs.Common.{◌-◌}
use Rattle.lists.specs.Basics.{join_map, range_from}
use Rattle.group_run.specs.Views.{plan_in, groups_of}
use Rattle.group_run.specs.Appends.{calls_in, SameLent}
use Rattle.group_run.proofs.Appends.{Going}
use Rattle.group_run.proofs.run_groups.Given as goal

abbrev pub invariant-loop-group : goal.invariant-loop-group
invariant-loop-group l =
    Going (groups_of l.planned)
    (join_map (calls_in (plan_in l.planned) l.planned.types.now l.planned.numbers.now l.planned.island) (range_from l.group (l.planned.plan.color_count - l.group))) l.fn.turns l.turns
    × SameLent l.initial.marks l.marks
