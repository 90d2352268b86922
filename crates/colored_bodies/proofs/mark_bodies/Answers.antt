use Rattle.std.proofs.Common.{ℕ, sym, ap₂, ◌∙◌, List, arith, set}
use Rattle.colored_bodies.proofs.Fills.{mark_next, none_filled}
use Rattle.colored_bodies.proofs.mark_bodies.Goals as goal

pub loop-i-init : goal.loop-i-init
loop-i-init c = c.requires.1 ∙ sym none_filled

pub loop-i-preserved : goal.loop-i-preserved
loop-i-preserved c =
    let l = c.loop-i in
    ap₂ (λ (t : List ℕ) (v : ℕ). set t l.i v) l.invariant (rw c.from.ensures at c.flag_of.ensures)
    ∙ mark_next c.args.types.now c.args.indices.now l.i c.loop-i-test.true (omega (arith, c.requires.0.room, c.loop-i-test.true))
