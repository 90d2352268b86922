-- `frame::multi::distinct_below`: the answer for the numbers from place i on is the answer for all.
use Rattle.std.proofs.Common.{◌≡◌, ◌&&◌, ltb, drop}
use Rattle.lists.specs.Basics.{all, distinct}
use Rattle.frame.proofs.multi.distinct_below.Given as goal

abbrev pub invariant-loop-i : goal.invariant-loop-i
invariant-loop-i l = (distinct (drop l.i l.list) && all (λ x. ltb x l.n) (drop l.i l.list)) ≡ (distinct l.list && all (λ x. ltb x l.n) l.list)
