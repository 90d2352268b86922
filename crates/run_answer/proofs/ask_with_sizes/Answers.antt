-- `ask_with_sizes`: a file that was read has its sizes; where it was refused its refusal stands.
use Rattle.run_answer.specs.Lent.{lent_in, roomy_for}
use Rattle.run_answer.proofs.Sizes.{few_constraints, refusal_known, sizes_read}
use Rattle.run_answer.proofs.ask_with_sizes.Goals as goal

pub has_room_for-room-requires : goal.has_room_for-room-requires
has_room_for-room-requires c = few_constraints _ _ c.read-read.ensures _ c.unwrap_or-sizes.ensures

pub returns : goal.returns
returns c = record {
  refusal = refusal_known _ _ c.read-read.ensures _ c.unwrap_or-sizes.ensures
      (λ v b m j. roomy_for v b m j (lent_in c.args.islands.now c.args.turns.now c.args.tables.now c.args.by_island.now c.args.plan.now c.args.plan_counts.now))
      _ _ c.has_room_for-room.ensures c.first_refusal.ensures;
  sizes = sizes_read _ _ c.read-read.ensures _ c.unwrap_or-sizes.ensures;
}
