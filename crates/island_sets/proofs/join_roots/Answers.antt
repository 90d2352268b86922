-- `island_sets::join_roots` meets its contract: the loser is linked to the winner, and both sizes together fit.
use Rattle.std.proofs.Common.{◌+◌, ◌-◌, refl}
use Rattle.island_sets.proofs.Unions.{left_stays, right_stays, picked_stays}
use Rattle.island_sets.proofs.join_roots.Goals as goal

pub returns-then-size_left-size_right-lt-FEW : goal.returns-then-size_left-size_right-lt-FEW
returns-then-size_left-size_right-lt-FEW c =
    let a = c.args in
    let r = c.requires in
    let l = c.link_under in
    let k = c.pick_winner-top in
    picked_stays a.parents.now a.sizes.now r.0 a.left a.right r.1 r.2 r.3 r.4 r.5 k.result (rw (c.from.ensures, c.from-2.ensures) at k.ensures) l.new.parents l.new.sizes (a.left + a.right - k.result) refl l.ensures.0 l.ensures.1

pub returns-then-winner-left : goal.returns-then-winner-left
returns-then-winner-left c =
    let a = c.args in
    let r = c.requires in
    let l = c.link_under-then-winner-left in
    left_stays a.parents.now a.sizes.now r.0 a.left a.right r.1 r.2 r.3 r.4 r.5 c.winner.result (rw (c.from.ensures, c.from-2.ensures) at c.winner.ensures) l.new.parents l.new.sizes c.if-winner-left.true l.ensures.0 l.ensures.1

pub returns : goal.returns
returns c =
    let a = c.args in
    let r = c.requires in
    let l = c.link_under-2 in
    right_stays a.parents.now a.sizes.now r.0 a.left a.right r.1 r.2 r.3 r.4 r.5 c.winner.result (rw (c.from.ensures, c.from-2.ensures) at c.winner.ensures) l.new.parents l.new.sizes c.if-winner-left.false l.ensures.0 l.ensures.1
