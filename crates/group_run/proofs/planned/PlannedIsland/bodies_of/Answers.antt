use Rattle.schedules.specs.Runs.{bodies_in}
use Rattle.group_run.proofs.planned.PlannedIsland.bodies_of.Goals as goal

pub returns : goal.returns
unfolding bodies_in
returns c = c.bodies_in_schedule_group.ensures
