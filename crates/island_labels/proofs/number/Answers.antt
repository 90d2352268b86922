-- The flags tell which bodies are in islands, and each turn labels the next body.
use Rattle.std.proofs.Common.{sym, arith}
use Rattle.island_labels.proofs.Numbering.{long_now, numbering_few, numbering_turns, numbering_ends}
use Rattle.island_labels.proofs.number.Goals as goal

pub number_one-islands-requires : goal.number_one-islands-requires
number_one-islands-requires c =
    let a = c.args in
    let f = c.flag_bodies in
    let l = c.loop-next in
    let e = long_now a.body_types.now a.parents.now a.body_islands.now f.new.body_islands c.requires.balanced c.requires f.ensures f.auto.body_islands l.body_islands l.islands l.next l.invariant in
    record { balanced = c.requires.balanced; inside = (sym e, omega (arith, e, c.loop-next-test.true), numbering_few a.body_types.now a.parents.now a.body_islands.now f.new.body_islands c.requires.balanced c.requires f.ensures f.auto.body_islands l.body_islands l.islands l.next l.invariant) }

pub loop-next-preserved : goal.loop-next-preserved
loop-next-preserved c =
    let a = c.args in
    let f = c.flag_bodies in
    let l = c.loop-next in
    let g = c.number_one-islands in
    let e = long_now a.body_types.now a.parents.now a.body_islands.now f.new.body_islands c.requires.balanced c.requires f.ensures f.auto.body_islands l.body_islands l.islands l.next l.invariant in
    numbering_turns a.body_types.now a.parents.now a.body_islands.now f.new.body_islands c.requires.balanced c.requires f.ensures f.auto.body_islands l.body_islands l.islands l.next l.invariant (omega (arith, e, c.loop-next-test.true)) g.new.body_islands g.result g.auto.body_islands g.ensures

pub returns : goal.returns
returns c =
    let a = c.args in
    let f = c.flag_bodies in
    let l = c.loop-next in
    numbering_ends a.body_types.now a.parents.now a.body_islands.now f.new.body_islands c.requires.balanced c.requires f.ensures f.auto.body_islands l.body_islands l.islands l.next l.invariant (omega (arith, l.invariant.long, c.loop-next-test.false))
