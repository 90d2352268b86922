use Rattle.std.proofs.Common.{refl, ◌∙◌}
use Rattle.group_run.proofs.Appends.{going_first, going_room, going_more}
use Rattle.group_run.proofs.Takes.{groups_first, group_next}
use Rattle.group_run.proofs.run_groups.Goals as goal

pub loop-group-init : goal.loop-group-init
loop-group-init c = (going_first (groups_first _ _ _ _), refl)

pub run_group-requires : goal.run_group-requires
run_group-requires c =
    going_room c.requires.room c.loop-group.invariant.0 _ _
    (group_next _ _ _ _ _ _ _ c.loop-group-test.true c.members_of-members.ensures c.bodies_of-bodies.ensures)

pub loop-group-preserved : goal.loop-group-preserved
loop-group-preserved c = (
  going_more c.requires.room c.loop-group.invariant.0 _ _ _
      (group_next _ _ _ _ _ _ _ c.loop-group-test.true c.members_of-members.ensures c.bodies_of-bodies.ensures)
      c.run_group.ensures.appended,
  c.run_group.ensures.same ∙ c.loop-group.invariant.1,
)
