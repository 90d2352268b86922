use Rattle.std.proofs.Common.{arith}
use Rattle.parts.specs.Parts.{part_at}
use Rattle.gathering.proofs.Ends.{next-part}
use Rattle.gathering.proofs.Counts.{counted_none, counted-add, counted_next, counted-fits, stampable_next}
use Rattle.gathering.proofs.stamp_members.Goals as goal

pub loop-member-init : goal.loop-member-init
loop-member-init c = counted_none _ _ 0

pub stamp_part-count-requires : goal.stamp_part-count-requires
stamp_part-count-requires c =
    rw (c.part-bodies.ensures, c.from.ensures)
    (stampable_next c.loop-member.invariant (next-part (part_at c.args.members.ends.bounds.now c.args.members.ends.endpoints.now) c.args.members.numbers.now c.loop-member.member-index (omega arith)) c.requires.stampable)

pub overflow_add-count : goal.overflow_add-count
overflow_add-count c =
    omega (
      arith,
      counted-fits
          c.requires.stampable
          (next-part (part_at c.args.members.ends.bounds.now c.args.members.ends.endpoints.now) c.args.members.numbers.now c.loop-member.member-index (omega arith))
          c.loop-member.invariant
          (rw (c.part-bodies.ensures, c.from.ensures) at c.stamp_part-count.ensures),
    )

pub loop-member-preserved : goal.loop-member-preserved
loop-member-preserved c =
    counted_next
    c.loop-member.invariant
    (next-part (part_at c.args.members.ends.bounds.now c.args.members.ends.endpoints.now) c.args.members.numbers.now c.loop-member.member-index (omega arith))
    (counted-add c.loop-member.count (rw (c.part-bodies.ensures, c.from.ensures) at c.stamp_part-count.ensures))
