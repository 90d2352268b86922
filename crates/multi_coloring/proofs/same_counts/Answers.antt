-- `same_counts`: the library tells of each place whether a count and the remembered one, as it is read, agree.
use Rattle.std.proofs.Common.{rules}
use Rattle.multi_coloring.specs.Counts.{count_read}
use Rattle.multi_coloring.proofs.Compared.{compared}
use Rattle.multi_coloring.proofs.same_counts.Goals as goal

pub returns : goal.returns
returns c = compared count_read c.args.counts.now c.args.remembered.now c.requires c.all.result (search rules) (search rules)
