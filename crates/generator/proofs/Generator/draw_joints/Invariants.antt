-- `draw_joints`: after i turns the first i joints are written.
use Rattle.generator.proofs.Loops.{Drawn, joints}
use Rattle.generator.proofs.Generator.draw_joints.Given as goal

abbrev pub invariant-loop-i : goal.invariant-loop-i
invariant-loop-i l = Drawn 3 (joints l.initial.self.state l.bodies.count) l.initial.self.state l.i l.initial.file l.file l.self.state
