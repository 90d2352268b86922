-- The part is what the lookup hands back; it starts at the offset of its group.
use Rattle.boundary.proofs.Numbers.{found_by}
use Rattle.boundary.proofs.engkarupi_bodies.Goals as goal

pub returns : goal.returns
returns c = found_by c.args.plan.now c.args.color_body_offsets.now c.args.color_bodies.now c.args.group c.from-planned.ensures c.bodies_in_schedule_group-part.ensures c.part_start.ensures
