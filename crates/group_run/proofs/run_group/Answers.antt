-- `run_group`: what the takes add does not depend on the bodies in the binding, so its marks and its count say all.
use Rattle.std.proofs.Common.{sym, ◌∙◌}
use Rattle.group_run.proofs.Appends.{room_by, appended_by}
use Rattle.group_run.proofs.Takes.{bound_added}
use Rattle.group_run.proofs.run_group.Goals as goal

pub take_members-requires : goal.take_members-requires
take_members-requires c = room_by c.args.turns.now (bound_added _ _ _ _ _ _ _ _ _ c.bind.ensures) c.requires

pub returns-clause-appended : goal.returns-clause-appended
returns-clause-appended c = appended_by (sym (bound_added _ _ _ _ _ _ _ _ _ c.bind.ensures)) c.take_members.ensures.appended

pub returns-clause-same : goal.returns-clause-same
returns-clause-same c = c.take_members.ensures.same ∙ c.bind.ensures.kept
