-- `take_counted`: the positions of a constraint are its part of the table, and past the constraints the lookup refuses 12.
use Rattle.std.proofs.Common.{[]}
use Rattle.std.proofs.lemmas.Result.{err_from_is_err_and}
use Rattle.group_run.proofs.Takes.{part_present, counted_is_taken, counted_past}
use Rattle.group_run.proofs.take_counted.Goals as goal

pub returns-then-planned-rank : goal.returns-then-planned-rank
returns-then-planned-rank c = counted_past c.args.planned.countable c.requires _ _ _ _ _ _ c.if-planned-rank.true

pub part-places-requires : goal.part-places-requires
part-places-requires c = part_present c.args.planned.countable c.requires [] [] [] [] _ c.if-planned-rank.false

pub returns-in_err-dynamic : goal.returns-in_err-dynamic
returns-in_err-dynamic c =
    let p = err_from_is_err_and c.from_residual.result c.from_residual.ensures.1 in
    rw (p.1, p.2) (counted_is_taken c.args.planned.countable c.requires _ _ _ _ _ _ _ _ _ c.if-planned-rank.false c.part-places.ensures (c.in_err-dynamic.ensures.taken []) c.in_err-dynamic.ensures.same)

pub returns : goal.returns
returns c = rw c.counted_taken.ensures (counted_is_taken c.args.planned.countable c.requires _ _ _ _ _ _ _ _ _ c.if-planned-rank.false c.part-places.ensures (c.in_ok-dynamic.ensures.taken []) c.in_ok-dynamic.ensures.same)
