-- `largest`: the largest so far is that of the bodies passed; what is left of both tables stands behind these.
use Rattle.std.proofs.Common.{◌≤◌, ◌≡◌, length, get_or, drop}
use Rattle.lists.specs.Basics.{max_of, range}
use Rattle.degrees.specs.Counts.{counted}
use Rattle.degrees.proofs.largest.Given as goal

abbrev pub invariant-loop-body_type : goal.invariant-loop-body_type
invariant-loop-body_type l = record {
  inside : length l.yielded ≤ length l.types;
  types : l.body_type-iterator.a.rest.now ≡ drop (length l.yielded) l.types;
  counts : l.body_type-iterator.b.rest.now ≡ drop (length l.yielded) l.counts;
  most : l.most ≡ max_of (λ b. counted (get_or l.types b 0) (get_or l.counts b 0)) (range (length l.yielded));
}
