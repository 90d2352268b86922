-- `BodySets::reset` meets its contract: there are as many sizes as parents, so those of bodies that are alone belong to them.
use Rattle.std.proofs.Common.{ℕ, ap, ◌∙◌, length, replicate}
use Rattle.island_sets.proofs.Starts.{fresh}
use Rattle.island_sets.proofs.BodySets.reset.Goals as goal

pub reset-requires : goal.reset-requires
reset-requires c = c.args.self.now.sets.few

pub invariant_of-self : goal.invariant_of-self
invariant_of-self c =
    let s = c.args.self.now in
    record { sets = (fresh (length s.parents.now) (length s.sizes.now) c.reset.new.parents c.reset.new.sizes s.sets.few s.sets.weighed.long c.reset.ensures.0 c.reset.ensures.1).0 }

pub returns-clause-alone : goal.returns-clause-alone
returns-clause-alone c =
    let s = c.args.self.now in
    record { parents = c.reset.ensures.0; sizes = c.reset.ensures.1 ∙ ap (λ (n : ℕ). replicate n 1) s.sets.weighed.long }
