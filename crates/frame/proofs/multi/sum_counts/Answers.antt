-- `frame::multi::sum_counts`: the sum of a chain is that of the definitions.
use Rattle.std.proofs.Common.{◌≡◌, ◌∙◌, rules}
use Rattle.std.specs.List.{sum_by}
use Rattle.lists.proofs.Chains.{sum_listed}
use Rattle.frame.proofs.multi.sum_counts.Goals as goal

pub returns : goal.returns
returns c = let e : c.sum.result ≡ sum_by (λ x. x) c.args.counts.now = search rules in e ∙ sum_listed (λ x. x) c.args.counts.now
