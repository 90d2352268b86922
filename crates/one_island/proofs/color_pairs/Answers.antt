-- `color_pairs`: the update is accepted, so the plan as it stands makes the definition's takes.
use Rattle.one_island.proofs.Plans.{pairs_colored}
use Rattle.one_island.proofs.color_pairs.Goals as goal

pub returns-clause-colored : goal.returns-clause-colored
returns-clause-colored c = pairs_colored _ _ _ _ c.requires _ _ _ c.new-fresh.ensures c.update-answer.ensures.updated c.plan_after.ensures
