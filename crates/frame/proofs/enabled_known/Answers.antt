-- `frame::enabled_known`: the next joint's byte decides, or is passed by.
use Rattle.std.proofs.Common.{sym, ap, ◌∙◌, arith}
use Rattle.frame.specs.Questions.{bits}
use Rattle.frame.proofs.Decoding.{enabled-end, known_stop, known_turn}
use Rattle.frame.proofs.enabled_known.Goals as goal

pub returns-then-joint-gt1 : goal.returns-then-joint-gt1
returns-then-joint-gt1 c =
    let i = c.loop-joint.invariant in
    let x = c.in-Some.ensures.steps.1 in
    sym (known_stop _ _ _ x.0 (x.1 ∙ i.size) c.if-joint-gt1.true) ∙ i.known

pub loop-joint-preserved : goal.loop-joint-preserved
loop-joint-preserved c =
    let i = c.loop-joint.invariant in
    let x = c.in-Some.ensures.steps.1 in
    record { size = c.in-Some.ensures.steps.0 ∙ i.size; known = known_turn _ _ _ x.0 (x.1 ∙ i.size) c.if-joint-gt1.false ∙ i.known }

pub returns : goal.returns
returns c =
    let i = c.loop-joint.invariant in
    sym (ap bits (enabled-end _ (omega (arith, c.in-None.ensures.steps.1.0, i.size)))) ∙ i.known
