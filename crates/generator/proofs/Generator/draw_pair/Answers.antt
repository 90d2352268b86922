-- `draw_pair`: the two bodies written are the pair that the two draws give.
use Rattle.generator.proofs.Loops.{pair_is, pair_state}
use Rattle.generator.proofs.Generator.draw_pair.Goals as goal

pub returns-clause-wrote : goal.returns-clause-wrote
returns-clause-wrote c =
    let x = c.draw in
    let y = c.draw-2 in
    rw (← pair_is c.args.bodies.count c.args.self.now.state x.new.self.state y.new.self.state x.result y.result x.ensures.state y.ensures.state x.ensures.drawn.0 y.ensures.drawn.0) c.put_pair.ensures

pub returns-clause-state : goal.returns-clause-state
returns-clause-state c = pair_state c.args.self.now.state _ _ c.draw.ensures.state c.draw-2.ensures.state
