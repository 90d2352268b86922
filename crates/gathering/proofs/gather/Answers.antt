use Rattle.std.proofs.Common.{arith, ltb, length, lt-ltb}
use Rattle.lists.proofs.Laws.{all_intro}
use Rattle.parts.specs.Parts.{part_at}
use Rattle.parts.proofs.Parts.{parts-length, parts-at}
use Rattle.gathering.proofs.Groups.{gathering_none, members-cut, part_below, group_fresh, end_small, gathering_more}
use Rattle.gathering.proofs.Gatherers.{same_self, same_then}
use Rattle.gathering.proofs.gather.Goals as goal

pub loop-color-init : goal.loop-color-init
loop-color-init c = (gathering_none c.requires.gatherable, same_self _)

pub group-numbers-requires : goal.group-numbers-requires
group-numbers-requires c = members-cut c.requires.gatherable c.loop-color.color (omega arith)

-- the members are constraints of the list
pub invariant_of-members : goal.invariant_of-members
invariant_of-members c =
    let bounds = c.args.ends.bounds.now in
    let endpoints = c.args.ends.endpoints.now in
    record {
      inside = rw (c.group-numbers.ensures, ← c.requires.counted)
          (all_intro (λ r. ltb r (length c.args.constraint_colors.now)) _
          (λ r m. lt-ltb r _ (part_below c.requires.gatherable (part_at bounds endpoints) (parts-length _ bounds endpoints) (parts-at _ bounds endpoints) c.loop-color.color (omega arith) r m)));
    }

pub list_bodies-requires : goal.list_bodies-requires
list_bodies-requires c =
    let bounds = c.args.ends.bounds.now in
    let endpoints = c.args.ends.endpoints.now in
    rw c.group-numbers.ensures (group_fresh c.requires.gatherable (part_at bounds endpoints) (parts-length _ bounds endpoints) (parts-at _ bounds endpoints) c.loop-color.color (omega arith) c.loop-color.invariant.0)

pub overflow_cast-color_body_offsets : goal.overflow_cast-color_body_offsets
overflow_cast-color_body_offsets c =
    let bounds = c.args.ends.bounds.now in
    let endpoints = c.args.ends.endpoints.now in
    omega (
      arith,
      end_small
          c.requires.gatherable
          (part_at bounds endpoints)
          (parts-length _ bounds endpoints)
          (parts-at _ bounds endpoints)
          c.loop-color.color
          (omega arith)
          c.loop-color.invariant.0
          (rw c.group-numbers.ensures at c.list_bodies.ensures.listed)
          c.list_bodies.ensures.same.stamps_long,
    )

pub loop-color-preserved : goal.loop-color-preserved
loop-color-preserved c =
    let bounds = c.args.ends.bounds.now in
    let endpoints = c.args.ends.endpoints.now in (
      gathering_more
          c.requires.gatherable
          (part_at bounds endpoints)
          (parts-length _ bounds endpoints)
          (parts-at _ bounds endpoints)
          c.loop-color.color
          (omega arith)
          c.loop-color.invariant.0
          (rw c.group-numbers.ensures at c.list_bodies.ensures.listed)
          c.list_bodies.ensures.same.stamps_long
          c.list_bodies.ensures.same.scratch_long
          c.list_bodies.ensures.same.bodies_long,
      same_then c.loop-color.invariant.1 c.list_bodies.ensures.same,
    )
