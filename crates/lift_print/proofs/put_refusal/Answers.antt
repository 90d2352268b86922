-- `put_refusal`: its line from place 0 on.
use Rattle.std.proofs.Common.{ℕ, List, refl, arith, subst}
use Rattle.frame.specs.Refusals.{number_of}
use Rattle.schedules.specs.Print.{refusal_line}
use Rattle.lift_print.specs.Prints.{Printed}
use Rattle.lift_print.proofs.Prints.{line_printed}
use Rattle.lift_print.proofs.put_refusal.Goals as goal

pub returns : goal.returns
returns c =
    let p = c.put_refusal in
    let kept = p.ensures.kept in
    let line = line_printed _ _ p.new.out refl c.told-out (rw (c.from.ensures, c.number.ensures) at p.ensures) in
    subst (λ (o : List ℕ). Printed (refusal_line (number_of c.args.refusal)) c.args.out.now o p.new.out.at) (grind (arith, kept)) line
