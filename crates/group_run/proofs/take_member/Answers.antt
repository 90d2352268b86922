-- `take_member`: what the take adds is what its answer on the marks adds.
use Rattle.group_run.proofs.Takes.{member_room, member_taken}
use Rattle.group_run.proofs.take_member.Goals as goal

pub append-requires : goal.append-requires
append-requires c = member_room _ _ _ _ _ _ _ _ _ c.args.turns.now c.take_rank-taken.ensures c.number_at.ensures c.requires

pub returns : goal.returns
returns c = member_taken _ _ _ _ _ _ _ _ _ _ c.take_rank-taken.ensures c.number_at.ensures _ c.append.ensures
