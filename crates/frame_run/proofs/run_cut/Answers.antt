-- `run_cut`: the tables have room, cut to the sizes that were read, and what stands behind the cuts is kept.
use Rattle.std.proofs.Common.{rules}
use Rattle.island_run.proofs.Rooms.{lengths_same}
use Rattle.run_answer.specs.Lent.{with_counts}
use Rattle.frame_run.proofs.Entry.{sized_ran, cut_roomy, counts_split}
use Rattle.frame_run.proofs.run_cut.Goals as goal

pub run_sized-requires-clause-roomy_sized : goal.run_sized-requires-clause-roomy_sized
run_sized-requires-clause-roomy_sized c = cut_roomy _ _ c.requires

pub returns-clause-ran : goal.returns-clause-ran
returns-clause-ran c =
    let s = c.requires in
    let k = c.run_sized.ensures in
    sized_ran _ _ s.file s.room _ _ k.ran (record {
      types = search rules;
      flags = search rules;
      pairs = search rules;
      island_pairs = c.run_sized.auto.island_pairs;
      counts = counts_split c.args.frame.now (with_counts c.args.asked.version) c.args.asked.manifolds c.args.asked.joints c.counts_room-counted.result c.args.counts.now _ c.split_at_mut-counts.result.1.now s.version c.counts_room-counted.ensures (search rules) c.split_at_mut-counts.ensures.back;
      island_counts = rw (← s.version) k.worn_islands;
      enabled = search rules;
      numbers = c.run_sized.auto.numbers;
      plan = lengths_same k.plan_lengths;
      plan_counts = rw (← s.version) k.worn_plan;
    })
