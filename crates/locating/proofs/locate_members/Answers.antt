-- The places of a member's endpoints lie inside the table, and what is written there touches no other member's.
use Rattle.std.proofs.Common.{◌<◌, arith, length}
use Rattle.lists.specs.Basics.{mem}
use Rattle.parts.proofs.Parts.{member_low}
use Rattle.locating.specs.Locates.{PlacesKnown}
use Rattle.locating.proofs.Locates.{locating_done, member_all, end_inside, places-many, locating_more}
use Rattle.locating.proofs.Places.{known_listed, known-few}
use Rattle.locating.proofs.locate_members.Goals as goal
use Rattle.locating.proofs.locate_members.Goals.{then-bodies-gt-FEW, else-bodies-gt-FEW}

pub start-start-requires : goal.start-start-requires
start-start-requires c =
    let low = member_low c.args.members.ends.count c.args.members.numbers.now c.loop-member.member-index (omega arith) c.args.members.inside in
    let there = c.args.members.ends.bounded _ low in
    rw c.from-constraint.ensures ((omega (arith, low, c.requires.few), λ h. (there.part h).low))

pub slice_bounds-locate_part-end : goal.slice_bounds-locate_part-end
slice_bounds-locate_part-end c = end_inside c.args.members.ends.bounded c.requires.arranged c.args.members.numbers.now c.args.members.inside c.loop-member.member-index (omega arith) c.loop-member.invariant (rw c.from-constraint.ensures at c.part-part.ensures) (rw c.from-constraint.ensures at c.start-start.ensures)

pub locate_part-requires : goal.locate_part-requires
locate_part-requires c =
    let e = c.args.members.ends.bounded in
    let w = c.requires.arranged in
    let b = c.args.members.inside in
    let f = c.requires.findable.0 in
    let h : c.loop-member.member-index < length c.args.members.numbers.now = omega arith in
    let known : PlacesKnown c.args.bodies.now c.if-bodies-gt-FEW.places = elim c.if-bodies-gt-FEW.branch [
      | then-bodies-gt-FEW y ↦ known_listed c.args.places.now c.requires.findable.1 y.list_places.auto.places y.list_places.ensures y.places-is
      | else-bodies-gt-FEW y ↦ known-few c.args.places.now c.requires.findable.1 y.if-bodies-gt-FEW.false y.places-is
    ] in (
      places-many e w c.args.members.numbers.now b c.loop-member.member-index h c.loop-member.invariant (rw c.from-constraint.ensures at c.part-part.ensures) (rw c.from-constraint.ensures at c.start-start.ensures),
      record { few = f.few; rising = f.rising; there = member_all e w c.args.members.numbers.now b c.loop-member.member-index h (λ b. mem b c.args.bodies.now) _ (rw c.from-constraint.ensures at c.part-part.ensures) f.there },
      known,
    )

pub loop-member-preserved : goal.loop-member-preserved
loop-member-preserved c = locating_more c.args.members.ends.bounded c.requires.arranged c.args.members.numbers.now c.args.members.inside c.loop-member.member-index (omega arith) c.loop-member.invariant (rw c.from-constraint.ensures at c.part-part.ensures) (rw c.from-constraint.ensures at c.start-start.ensures) _ c.locate_part.ensures

pub returns : goal.returns
returns c = locating_done c.loop-member.invariant (omega arith)

pub offset_bounds-constraint_body_positions-start : goal.offset_bounds-constraint_body_positions-start
offset_bounds-constraint_body_positions-start c = omega (arith, end_inside c.args.members.ends.bounded c.requires.arranged c.args.members.numbers.now c.args.members.inside c.loop-member.member-index (omega arith) c.loop-member.invariant (rw c.from-constraint.ensures at c.part-part.ensures) (rw c.from-constraint.ensures at c.start-start.ensures))
