-- `draw_types`: after i turns the first i types are written.
use Rattle.generator.proofs.Loops.{Drawn, types}
use Rattle.generator.proofs.Generator.draw_types.Given as goal

abbrev pub invariant-loop-i : goal.invariant-loop-i
invariant-loop-i l = Drawn 1 (types l.initial.self.state) l.initial.self.state l.i l.initial.file l.file l.self.state
