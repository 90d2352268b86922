use Rattle.std.proofs.Common.{refl, ◌∙◌}
use Rattle.group_run.proofs.Appends.{going_first, going_room, going_more, going_last}
use Rattle.group_run.proofs.Takes.{calls_next, calls_after, calls_end}
use Rattle.group_run.proofs.take_members.Goals as goal

pub loop-rank-init : goal.loop-rank-init
loop-rank-init c = (going_first refl, refl)

pub take_member-requires : goal.take_member-requires
take_member-requires c = rw c.from.ensures (going_room c.requires c.loop-rank.invariant.0 _ _ (calls_next _ _ _ _ _ _ _ c.loop-rank-test.true))

pub loop-rank-preserved : goal.loop-rank-preserved
loop-rank-preserved c =
    let m = rw c.from.ensures at c.take_member.ensures in
    (going_more c.requires c.loop-rank.invariant.0 _ _ _ (calls_after _ _ _ _ _ _ _ _ c.loop-rank-test.true m.after) m.added, m.same ∙ c.loop-rank.invariant.1)

pub returns-clause-appended : goal.returns-clause-appended
returns-clause-appended c = going_last c.requires c.loop-rank.invariant.0 (calls_end _ _ _ _ _ _ _ c.loop-rank-test.false)
