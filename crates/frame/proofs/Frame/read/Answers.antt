-- `Frame::read`: the head's questions, then the joints', then 5 of types and enabled bytes.
use Rattle.std.proofs.Common.{◌+◌, ◌-◌, ◌≡◌, sym, ◌∙◌, arith, rules}
use Rattle.std.proofs.lemmas.Result.{err_from_is_err_and}
use Rattle.frame.proofs.Files.{joints_inside}
use Rattle.frame.proofs.Answered.{read_head, read-joints, read_types, read_enabled}
use Rattle.frame.proofs.Frame.read.Goals as goal

pub returns-in_err-version : goal.returns-in_err-version
returns-in_err-version c = search (rules, read_head)

pub returns-in_err-joint_ends : goal.returns-in_err-joint_ends
returns-in_err-joint_ends c = let head = sym c.in_ok-version.ensures.refusal in search (rules, read-joints)

pub slice_bounds-types-end : goal.slice_bounds-types-end
slice_bounds-types-end c = omega (arith, (c.from-bodies.ensures ∙ c.half_at.ensures), joints_inside c.args.bytes.now (sym c.in_ok-version.ensures.refusal) (sym c.in_ok-joint_ends.ensures.refusal))

pub returns-in_err-ask : goal.returns-in_err-ask
returns-in_err-ask c =
    let head = sym c.in_ok-version.ensures.refusal in
    let joints = sym c.in_ok-joint_ends.ensures.refusal in
    let size : 11 + c.from-bodies.result - 11 ≡ c.from-bodies.result = omega arith in
    let p = err_from_is_err_and c.from_residual-in_err-ask.result c.from_residual-in_err-ask.ensures.1 in
    rw (p.1, p.2) (read_types c.args.bytes.now head joints _ (c.in_err-ask.ensures ∙ rw (c.at_most.ensures, size, (c.from-bodies.ensures ∙ c.half_at.ensures))))

pub returns-in_err-ask-2 : goal.returns-in_err-ask-2
returns-in_err-ask-2 c =
    let head = sym c.in_ok-version.ensures.refusal in
    let joints = sym c.in_ok-joint_ends.ensures.refusal in
    let size : 11 + c.from-bodies.result - 11 ≡ c.from-bodies.result = omega arith in
    let known = c.in_ok-ask.ensures ∙ rw (c.at_most.ensures, size, (c.from-bodies.ensures ∙ c.half_at.ensures)) in
    let p = err_from_is_err_and c.from_residual-in_err-ask-2.result c.from_residual-in_err-ask-2.ensures.1 in
    rw (p.1, p.2) (read_enabled c.args.bytes.now head joints known _ (c.in_err-ask-2.ensures ∙ rw c.live_known.ensures))
