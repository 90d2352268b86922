-- `next_state`: the remainder may be taken before the sum too.
use Rattle.std.proofs.Common.{refl}
use Rattle.generator.proofs.Draws.{step_next}
use Rattle.generator.proofs.next_state.Goals as goal

pub returns : goal.returns
returns c = step_next c.args.s c.wrapping_mul.result _ c.wrapping_mul.ensures refl
