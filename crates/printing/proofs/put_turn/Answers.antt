-- `put_turn`: the endpoints of a constraint of the file stand where `ends_of` says.
use Rattle.std.proofs.Common.{◌+◌, ◌<◌, arith}
use Rattle.frame.specs.Files.{count_m, count_j}
use Rattle.writer.proofs.Writes.{same_of}
use Rattle.printing.proofs.Turns.{no_constraint, never_ready, with_ends, ready_with_ends}
use Rattle.printing.proofs.put_turn.Goals as goal

pub returns-then-constraint_count-constraint-clause-wrote : goal.returns-then-constraint_count-constraint-clause-wrote
returns-then-constraint_count-constraint-clause-wrote c =
    let a = c.args in
    λ placed. no_constraint a.frame.bytes.now a.out.now a.turn.island a.turn.group a.turn.number (omega (arith, c.constraint_count.ensures, c.if-constraint_count-constraint.true))

pub returns-then-constraint_count-constraint-clause-put : goal.returns-then-constraint_count-constraint-clause-put
returns-then-constraint_count-constraint-clause-put c =
    let a = c.args in
    λ placed. never_ready a.frame.bytes.now a.out.now a.turn.number (omega (arith, c.constraint_count.ensures, c.if-constraint_count-constraint.true))

pub returns-clause-same : goal.returns-clause-same
returns-clause-same c = same_of c.put_turn_line.ensures.wrote

pub returns-clause-wrote : goal.returns-clause-wrote
returns-clause-wrote c =
    let a = c.args in
    let e = c.ends_of-ends in
    let n = c.from-constraint in
    let here : n.result < count_m a.frame.bytes.now + count_j a.frame.bytes.now = omega (arith, c.constraint_count.ensures, c.if-constraint_count-constraint.false) in
    λ placed. with_ends a.frame.bytes.now a.out.now a.turn.island a.turn.group a.turn.number e.result.at e.result.count _ (rw n.ensures at here) (rw n.ensures at (e.ensures here placed)) c.put_turn_line.ensures.wrote

pub returns-clause-put : goal.returns-clause-put
returns-clause-put c =
    let a = c.args in
    let e = c.ends_of-ends in
    let n = c.from-constraint in
    let here : n.result < count_m a.frame.bytes.now + count_j a.frame.bytes.now = omega (arith, c.constraint_count.ensures, c.if-constraint_count-constraint.false) in
    λ placed. ready_with_ends a.frame.bytes.now a.out.now a.turn.island a.turn.group a.turn.number e.result.at e.result.count (rw n.ensures at here) (rw n.ensures at (e.ensures here placed)) c.put_turn_line.ensures.room
