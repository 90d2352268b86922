-- The next place's number joins those that are written.
use Rattle.std.proofs.Common.{ℕ, List, ◌+◌, ◌-◌, ◌<◌, ◌++◌, length, take, length-set, sym, ap, ◌∙◌, arith}
use Rattle.lists.specs.Basics.{range_from, range}
use Rattle.lists.proofs.Fills.{fill_turn}
use Rattle.lists.proofs.Ranges.{range-next}
use Rattle.tables.proofs.number_all.Goals as goal

pub loop-place-preserved : goal.loop-place-preserved
loop-place-preserved c =
    let t = c.loop-place.table in
    let i = c.loop-place.place in
    let n = length t in
    let h : i < n = omega arith in
    rw (length-set t i i) (fill_turn t (range_from (i + 1) (n - (i + 1))) (range n) i i h (ap (λ (r : List ℕ). take i t ++ r) (sym (range-next n i h)) ∙ c.loop-place.invariant))
