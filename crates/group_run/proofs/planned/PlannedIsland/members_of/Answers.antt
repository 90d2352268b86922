use Rattle.schedules.specs.Runs.{members_in}
use Rattle.group_run.proofs.planned.PlannedIsland.members_of.Goals as goal

pub returns : goal.returns
unfolding members_in
returns c = c.constraints_in_schedule_group.ensures
