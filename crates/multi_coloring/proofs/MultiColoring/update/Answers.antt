-- `update`: the questions' answer is the definition's, and so is the test for equal input; each of the three answers then meets the
-- contract.
use Rattle.std.proofs.Common.{◌≡◌, refl, sym, ap, ◌∙◌, Bool, ◌&&◌, leb, length}
use Rattle.plan_questions.specs.Lent.{tables_in}
use Rattle.multi_coloring.specs.Counts.{multi_update_refusal}
use Rattle.multi_coloring.specs.Calls.{multi_refusal_with}
use Rattle.constraint_coloring.proofs.Updates.{built}
use Rattle.multi_coloring.proofs.Accepted.{accepted, bounds_room, buildable}
use Rattle.multi_coloring.proofs.Updates.{refused, unchanged, changed}
use Rattle.multi_coloring.proofs.MultiColoring.update.Goals as goal
use Rattle.multi_coloring.proofs.MultiColoring.update.Goals.{After-has_room_for}

-- what the questions refuse is the definition's
asked : (c : After-has_room_for) → multi_update_refusal c.args.flags.now c.args.ends.now c.args.counts_in.now (leb (length c.args.counts_in.now) (length c.args.counts.now) && c.has_room_for.result) ≡ multi_refusal_with (tables_in c.args.tables.now) c.args.counts.now c.args.flags.now c.args.ends.now c.args.counts_in.now
unfolding multi_refusal_with
asked c = ap (λ (room : Bool). multi_update_refusal c.args.flags.now c.args.ends.now c.args.counts_in.now (leb (length c.args.counts_in.now) (length c.args.counts.now) && room)) c.has_room_for.ensures

pub returns-in-Err-clause-updated : goal.returns-in-Err-clause-updated
returns-in-Err-clause-updated c =
    let q = (goal.at.returns-in-Err-clause-updated c).After-has_room_for in
    refused _ _ _ _ (tables_in c.args.tables.now) _ _ (c.in-Err.ensures ∙ asked q)

pub invariant_of-listed : goal.invariant_of-listed
invariant_of-listed c =
    let q = (goal.at.invariant_of-listed c).After-has_room_for in
    let o = accepted _ _ _ (tables_in c.args.tables.now) _ (sym (c.in-Ok.ensures ∙ asked q)) in
    record { few = o.few; known = o.known; whole = o.whole }

pub holds-requires : goal.holds-requires
holds-requires c =
    let q = (goal.at.holds-requires c).After-has_room_for in
    (accepted _ _ _ (tables_in c.args.tables.now) _ (sym (c.in-Ok.ensures ∙ asked q))).room

pub returns-then-holds-clause-updated : goal.returns-then-holds-clause-updated
returns-then-holds-clause-updated c =
    let q = (goal.at.returns-then-holds-clause-updated c).After-has_room_for in
    unchanged _ _ _ _ (tables_in c.args.tables.now) _ (sym (c.in-Ok.ensures ∙ asked q)) (sym c.holds.ensures ∙ c.if-holds.true)

pub copy_over-requires : goal.copy_over-requires
copy_over-requires c =
    let q = (goal.at.copy_over-requires c).After-has_room_for in
    (accepted _ _ _ (tables_in c.args.tables.now) _ (sym (c.in-Ok.ensures ∙ asked q))).room

pub build_counted-plan-requires : goal.build_counted-plan-requires
build_counted-plan-requires c =
    let q = (goal.at.build_counted-plan-requires c).After-has_room_for in
    let o = accepted _ _ _ (tables_in c.args.tables.now) _ (sym (c.in-Ok.ensures ∙ asked q)) in
    record { room = bounds_room o; buildable = buildable o }

pub returns-clause-updated : goal.returns-clause-updated
returns-clause-updated c =
    let q = (goal.at.returns-clause-updated c).After-has_room_for in
    let t = tables_in c.args.tables.now in
    changed _ _ _ _ t _ _ _ _ (sym (c.in-Ok.ensures ∙ asked q)) (sym c.holds.ensures ∙ c.if-holds.false)
    (built t _ c.build_counted-plan.ensures refl c.build_counted-plan.auto.body_constraints refl) c.copy_over.ensures
