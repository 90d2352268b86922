-- `island_labels::number` meets its contract: the flags tell which bodies are in islands, and each turn labels the next body.
use Rattle.island_labels.proofs.Numbering.{Numbering}
use Rattle.island_labels.proofs.number.Given as goal

abbrev pub invariant-loop-next : goal.invariant-loop-next
invariant-loop-next l = Numbering l.parents l.initial.body_islands l.body_islands l.islands l.next
