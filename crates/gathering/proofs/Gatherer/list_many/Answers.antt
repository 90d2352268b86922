-- `list_many`: as many bodies as were counted have the stamp, so they fill the part; the places around it are kept.
use Rattle.std.proofs.Common.{refl, arith}
use Rattle.parts.specs.MemberEnds.{ends_of}
use Rattle.gathering.proofs.Counts.{counted-add}
use Rattle.gathering.proofs.Arranges.{end_inside, part_size, part_listed}
use Rattle.gathering.proofs.Gatherer.list_many.Goals as goal

pub overflow_add-end : goal.overflow_add-end
overflow_add-end c = omega (arith, end_inside c.requires (counted-add c.args.self.now.end c.stamp_members.ensures))

pub collect_part-requires-clause-inside : goal.collect_part-requires-clause-inside
collect_part-requires-clause-inside c = (omega arith, end_inside c.requires (counted-add c.args.self.now.end c.stamp_members.ensures))

pub collect_part-requires-clause-few : goal.collect_part-requires-clause-few
collect_part-requires-clause-few c =
    (omega (arith, c.stamp_members.auto.body_stamps, c.args.self.now.few), part_size c.requires (counted-add c.args.self.now.end c.stamp_members.ensures))

pub returns-clause-listed : goal.returns-clause-listed
returns-clause-listed c =
    rw (c.collect_part.ensures.kept, c.collect_part.ensures.collected)
    (part_listed c.requires (counted-add {bs = ends_of c.args.members} c.args.self.now.end c.stamp_members.ensures) _ refl)
