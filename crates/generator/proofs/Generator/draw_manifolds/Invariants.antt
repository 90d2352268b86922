-- `draw_manifolds`: after i turns the first i pairs are written.
use Rattle.generator.proofs.Loops.{Drawn, manifolds}
use Rattle.generator.proofs.Generator.draw_manifolds.Given as goal

abbrev pub invariant-loop-i : goal.invariant-loop-i
invariant-loop-i l = Drawn 2 (manifolds l.initial.self.state l.bodies.count) l.initial.self.state l.i l.initial.file l.file l.self.state
