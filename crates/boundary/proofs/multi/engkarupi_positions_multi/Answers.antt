-- The positions are at most four, so four places hold them.
use Rattle.std.proofs.Common.{refl, ap, length}
use Rattle.answer_numbers.proofs.Places.{found_in}
use Rattle.boundary.proofs.Numbers.{located_by}
use Rattle.boundary.proofs.multi.engkarupi_positions_multi.Goals as goal

pub returns : goal.returns
returns c =
    located_by c.args.plan.now _ c.from.ensures c.body_positions_for_constraint-answer.ensures
    (ap length (found_in c.body_positions_for_constraint-answer.result _ _ refl c.unwrap_or.ensures)) c.locate.ensures
