-- An island whose groups are run, as the definitions name its parts.
use Rattle.std.specs.Prelude.{ℕ, List}
use Rattle.groups.specs.Groups.{Plan}
use Rattle.colored_bodies.specs.declared.BodyBinding.{BodyBinding}
use Rattle.schedules.specs.Runs.{Call, calls_from}
use Rattle.group_run.specs.declared.planned.PlannedIsland.{PlannedIsland}
use Rattle.group_run.specs.Appends.{seen, plan_calls}

-- its plan as the lookups see it
abbrev pub plan_in : PlannedIsland → Plan
plan_in p = seen p.plan p.counts.now p.members.offsets.now p.members.table.now p.bodies.offsets.now p.bodies.table.now p.positions.now

-- the takes of the ranks rs in group k from a binding, and the takes of all its groups
abbrev pub taken_from : PlannedIsland → ℕ → BodyBinding → List ℕ → List Call
taken_from p k b rs = calls_from (plan_in p) p.numbers.now p.island k b rs

abbrev pub groups_of : PlannedIsland → List Call
groups_of p = plan_calls (plan_in p) p.types.now p.numbers.now p.island
