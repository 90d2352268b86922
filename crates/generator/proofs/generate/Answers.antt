-- `generate`: a refusal leaves the bytes; else the file is written.
use Rattle.std.proofs.Common.{length, sym}
use Rattle.generator.proofs.Calls.{all_yes}
use Rattle.generator.proofs.generate.Goals as goal

pub write_lift-requires : goal.write_lift-requires
write_lift-requires c =
    let s = c.args.sizes in
    let yes = all_yes s.bodies s.manifolds s.joints (length c.args.bytes.now) (sym c.in_ok-first_refusal.ensures) in
    record { few = yes.0; pairs = yes.1; room = yes.2 }

pub file_length-requires : goal.file_length-requires
file_length-requires c =
    let s = c.args.sizes in
    (all_yes s.bodies s.manifolds s.joints (length c.args.bytes.now) (sym c.in_ok-first_refusal.ensures)).0
