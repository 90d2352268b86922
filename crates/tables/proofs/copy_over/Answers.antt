use Rattle.std.proofs.Common.{arith, ap₂, ◌∙◌, set}
use Rattle.lists.proofs.Fills.{copied}
use Rattle.tables.proofs.copy_over.Goals as goal

pub loop-i-preserved : goal.loop-i-preserved
loop-i-preserved g c =
    let l = c.loop-i in
    ap₂ (λ t v. set t l.i v) l.invariant c.index-from-i.is
    ∙ copied c.args.from.now c.args.to.now l.i c.index-from-i.result c.loop-i-test.true (omega (arith, c.requires, c.loop-i-test.true))
