use Rattle.std.proofs.Common.{arith}
use Rattle.gathering.proofs.Ends.{next-body}
use Rattle.gathering.proofs.Notes.{noted_none, notable_next, noted_next, body-fits}
use Rattle.gathering.proofs.Gatherers.{same_self, same_then}
use Rattle.gathering.proofs.Gatherer.note_part.Goals as goal

pub loop-body-init : goal.loop-body-init
loop-body-init c = (noted_none _ _ _ _, same_self _)

pub note-requires : goal.note-requires
note-requires c = body-fits (notable_next c.loop-body.invariant.0 (next-body c.args.bodies.now c.loop-body.body-index (omega arith)) c.requires)

pub loop-body-preserved : goal.loop-body-preserved
loop-body-preserved c = (noted_next c.loop-body.invariant.0 (next-body c.args.bodies.now c.loop-body.body-index (omega arith)) c.note.ensures.noted, same_then c.loop-body.invariant.1 c.note.ensures.same)
