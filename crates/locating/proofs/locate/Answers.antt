-- A group's members and bodies are the parts that stand for it, and its members have their positions among its bodies.
use Rattle.std.proofs.Common.{ℕ, ◌<◌, ◌≡◌, List, arith, length}
use Rattle.parts.specs.Parts.{Bounded}
use Rattle.parts.specs.Steps.{Gapless}
use Rattle.parts.specs.declared.Ends.{Ends}
use Rattle.locating.specs.Locates.{Arranged}
use Rattle.locating.proofs.Settles.{settling_done, members-cut, bodies-cut, group_below, group_arranged, group_findable, group_low, settling_more}
use Rattle.locating.proofs.locate.Goals as goal

pub group-numbers-requires : goal.group-numbers-requires
group-numbers-requires c = members-cut c.requires.locatable c.loop-color.color (omega arith)

pub group-bodies-requires : goal.group-bodies-requires
group-bodies-requires c = bodies-cut c.requires.locatable c.loop-color.color (omega arith)

-- the endpoints are those of as many constraints as have a color
fills : (e : Ends) (colors positions : List ℕ) → length colors ≡ e.count → Arranged (length colors) e.bounds.now e.endpoints.now positions
    → Bounded (length colors) e.bounds.now e.endpoints.now × Gapless (length colors) e.bounds.now e.endpoints.now × (length positions ≡ length e.endpoints.now)
fills e colors positions h a = (rw h e.bounded, a.gapless, a.room)

pub invariant_of-members : goal.invariant_of-members
invariant_of-members c = record { inside = group_below (fills c.args.ends c.args.constraint_colors.now c.args.constraint_body_positions.now c.requires.counted c.requires.arranged) c.requires.locatable c.loop-color.invariant c.requires.counted (omega arith) c.group-numbers.ensures c.group-bodies.ensures }

pub locate_members-requires-clause-few : goal.locate_members-requires-clause-few
locate_members-requires-clause-few c = omega (arith, c.requires.locatable.few, c.requires.counted)

pub locate_members-requires-clause-arranged : goal.locate_members-requires-clause-arranged
locate_members-requires-clause-arranged c = group_arranged (fills c.args.ends c.args.constraint_colors.now c.args.constraint_body_positions.now c.requires.counted c.requires.arranged) c.requires.locatable c.loop-color.invariant c.requires.counted (omega arith) c.group-numbers.ensures c.group-bodies.ensures

pub locate_members-requires-clause-findable : goal.locate_members-requires-clause-findable
locate_members-requires-clause-findable c =
    let w = (fills c.args.ends c.args.constraint_colors.now c.args.constraint_body_positions.now c.requires.counted c.requires.arranged) in
    let p = c.requires.locatable in
    let v = c.loop-color.invariant in
    let h : c.loop-color.color < c.args.color_count = omega arith in
    let m = c.group-numbers.ensures in
    let b = c.group-bodies.ensures in
    (group_findable w p v c.requires.counted h m b, group_low w p v c.requires.counted h m b)

pub loop-color-preserved : goal.loop-color-preserved
loop-color-preserved c =
    let d = c.locate_members in
    settling_more (fills c.args.ends c.args.constraint_colors.now c.args.constraint_body_positions.now c.requires.counted c.requires.arranged) c.requires.locatable c.loop-color.invariant c.requires.counted (omega arith) c.group-numbers.ensures c.group-bodies.ensures d.auto.places d.auto.constraint_body_positions d.ensures

pub returns : goal.returns
returns c = settling_done (fills c.args.ends c.args.constraint_colors.now c.args.constraint_body_positions.now c.requires.counted c.requires.arranged) c.requires.locatable c.loop-color.invariant (omega arith)
