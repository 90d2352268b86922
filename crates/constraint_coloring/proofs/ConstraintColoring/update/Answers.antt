-- `update`: the questions' answer is the definition's, and so is the test for equal input; each of the three answers then meets the
-- contract.
use Rattle.std.proofs.Common.{◌≡◌, refl, sym, ap, ◌∙◌, Bool, arith}
use Rattle.parts.proofs.Parts.{parts_pairs, pairs_bounded}
use Rattle.plan_questions.specs.Plans.{update_refusal}
use Rattle.plan_questions.specs.Lent.{tables_in}
use Rattle.constraint_coloring.specs.Calls.{holds, refusal_with}
use Rattle.constraint_coloring.proofs.Accepted.{accepted, buildable}
use Rattle.constraint_coloring.proofs.Updates.{built, refused, unchanged, changed}
use Rattle.constraint_coloring.proofs.ConstraintColoring.update.Goals as goal
use Rattle.constraint_coloring.proofs.ConstraintColoring.update.Goals.{After-has_room_for_pairs-room}

-- what the questions refuse is the definition's
asked : (c : After-has_room_for_pairs-room) → update_refusal c.args.flags.now c.args.pairs.now c.has_room_for_pairs-room.result ≡ refusal_with (tables_in c.args.tables.now) c.args.flags.now c.args.pairs.now
unfolding refusal_with
asked c = ap (λ (room : Bool). update_refusal c.args.flags.now c.args.pairs.now room) c.has_room_for_pairs-room.ensures

pub returns-in-Err-clause-updated : goal.returns-in-Err-clause-updated
returns-in-Err-clause-updated c =
    let q = (goal.at.returns-in-Err-clause-updated c).After-has_room_for_pairs-room in
    refused _ _ _ (tables_in c.args.tables.now) _ (c.in-Err.ensures ∙ asked q)

pub returns-then-hold-clause-updated : goal.returns-then-hold-clause-updated
unfolding holds
returns-then-hold-clause-updated c =
    let q = (goal.at.returns-then-hold-clause-updated c).After-has_room_for_pairs-room in
    unchanged _ _ _ (tables_in c.args.tables.now) (sym (c.in-Ok.ensures ∙ asked q)) (sym c.hold.ensures ∙ c.if-hold.true)

pub invariant_of-ends : goal.invariant_of-ends
invariant_of-ends c =
    let q = (goal.at.invariant_of-ends c).After-has_room_for_pairs-room in
    record { bounded = pairs_bounded _ _ (omega (arith, (accepted _ _ (tables_in c.args.tables.now) (sym (c.in-Ok.ensures ∙ asked q))).even)) }

pub build_plan-requires : goal.build_plan-requires
build_plan-requires c =
    let q = (goal.at.build_plan-requires c).After-has_room_for_pairs-room in
    buildable (accepted _ _ (tables_in c.args.tables.now) (sym (c.in-Ok.ensures ∙ asked q)))

pub returns-clause-updated : goal.returns-clause-updated
unfolding holds
returns-clause-updated c =
    let q = (goal.at.returns-clause-updated c).After-has_room_for_pairs-room in
    let t = tables_in c.args.tables.now in
    let e : refusal_with t c.args.flags.now c.args.pairs.now ≡ 0 = sym (c.in-Ok.ensures ∙ asked q) in
    changed _ _ _ t _ _ e (sym c.hold.ensures ∙ c.if-hold.false)
    (built t _ (rw (parts_pairs _ _ (accepted _ _ t e).even) at c.build_plan.ensures) refl refl refl)
