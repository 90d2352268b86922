-- `frame::walk_joints`: the walk of version 2; the length of version 1, whose joints have two endpoints each.
use Rattle.std.proofs.Common.{sym, ◌∙◌, arith}
use Rattle.frame.proofs.Files.{headed, first_length, ends-first_long, second_by_version}
use Rattle.frame.proofs.walk_joints.Goals as goal

pub overflow_mul-end : goal.overflow_mul-end
overflow_mul-end c = let h = headed c.args.part.bytes.now c.requires.placed.head in omega (arith, h.joints, c.requires.placed.joints)

pub overflow_add-end : goal.overflow_add-end
overflow_add-end c = let h = headed c.args.part.bytes.now c.requires.placed.head in omega (arith, h.bodies, h.manifolds, h.joints, c.requires.placed.place, c.requires.placed.joints)

pub returns-in_ok-ask-in-First : goal.returns-in_ok-ask-in-First
returns-in_ok-ask-in-First c =
    let p = c.requires.placed in
    let bs = c.args.part.bytes.now in
    let v = second_by_version bs _ (sym c.in-First.is ∙ c.requires.version) in
    record {
      refusal = c.in_ok-ask-in-First.ensures ∙ first_length bs _ p.head v (omega (arith, p.place, p.joints));
      ends = omega (arith, ends-first_long bs v, p.joints);
    }
