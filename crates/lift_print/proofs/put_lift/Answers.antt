-- `put_lift`: the frame that was made, or its refusal put over the kept buffer.
use Rattle.lift_print.proofs.Prints.{frame_printed, refusal_printed}
use Rattle.lift_print.proofs.put_lift.Goals as goal

pub returns-in-Ok : goal.returns-in-Ok
returns-in-Ok c =
    let s = c.args.wanted.sizes in
    frame_printed c.args.wanted.seed s.bodies s.manifolds s.joints c.args.out.now c.generate.new.bytes c.told-out c.in-Ok.length c.in-Ok.ensures

pub returns-in-Err : goal.returns-in-Err
returns-in-Err c =
    let s = c.args.wanted.sizes in
    refusal_printed c.args.wanted.seed s.bodies s.manifolds s.joints c.args.out.now c.generate.new.bytes c.told-out c.in-Err.refusal _ _ c.in-Err.ensures c.put_refusal.ensures
