use Rattle.std.proofs.Common.{arith}
use Rattle.parts.specs.Parts.{part_at}
use Rattle.gathering.proofs.Ends.{next-part}
use Rattle.gathering.proofs.Notes.{noted_none, notable_next, noted_next}
use Rattle.gathering.proofs.Gatherers.{same_self, same_then}
use Rattle.gathering.proofs.Gatherer.note_members.Goals as goal

pub loop-member-init : goal.loop-member-init
loop-member-init c = (noted_none _ _ _ _, same_self _)

pub note_part-requires : goal.note_part-requires
note_part-requires c =
    rw (c.part-bodies.ensures, c.from.ensures)
    (notable_next c.loop-member.invariant.0 (next-part (part_at c.args.members.ends.bounds.now c.args.members.ends.endpoints.now) c.args.members.numbers.now c.loop-member.member-index (omega arith)) c.requires)

pub loop-member-preserved : goal.loop-member-preserved
loop-member-preserved c = (
  noted_next
      c.loop-member.invariant.0
      (next-part (part_at c.args.members.ends.bounds.now c.args.members.ends.endpoints.now) c.args.members.numbers.now c.loop-member.member-index (omega arith))
      (rw (c.part-bodies.ensures, c.from.ensures) at c.note_part.ensures.noted),
  same_then c.loop-member.invariant.1 c.note_part.ensures.same,
)
