-- The test is the one of `spend`.
use Rattle.std.proofs.Common.{eq-eqb, ne_eqb}
use Rattle.colored_bodies.specs.Bindings.{spend}
use Rattle.colored_bodies.proofs.take_body.Goals as goal

pub returns-then-marks-p-eq-HELD : goal.returns-then-marks-p-eq-HELD
unfolding spend
returns-then-marks-p-eq-HELD c = simp (eq-eqb _ _ c.if-marks-p-eq-HELD.true)

pub returns-else-marks-p-eq-HELD : goal.returns-else-marks-p-eq-HELD
unfolding spend
returns-else-marks-p-eq-HELD c = simp (ne_eqb _ _ c.if-marks-p-eq-HELD.false)
