-- `color_counted`: the same of constraints that have a count each.
use Rattle.one_island.proofs.Plans.{counts_colored}
use Rattle.one_island.proofs.color_counted.Goals as goal

pub returns-clause-colored : goal.returns-clause-colored
returns-clause-colored c = counts_colored _ _ _ _ _ _ _ c.requires.ready c.requires.some _ _ _ c.new-fresh.ensures c.update-answer.ensures.updated c.plan_after.ensures
