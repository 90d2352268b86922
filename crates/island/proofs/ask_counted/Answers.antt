-- Question 3 says that there are few enough counts for their sum to fit.
use Rattle.std.proofs.Common.{sym, ◌∙◌}
use Rattle.frame.proofs.Questions.{passed, few-each}
use Rattle.island.proofs.ask_counted.Goals as goal

pub counts_agree-requires : goal.counts_agree-requires
counts_agree-requires c =
    (few-each _ _ _ (sym c.few_each.ensures ∙ (passed c.few_each.result 0 2 (sym c.in_ok-ask.ensures)).0)).2
