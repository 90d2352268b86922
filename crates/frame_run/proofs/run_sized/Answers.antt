-- `run_sized`: the filling leaves the frame's tables, so that the islands can be run; the plan's tables keep their lengths.
use Rattle.std.proofs.Common.{ℕ, ◌+◌, ◌*◌, ◌≡◌, ◌++◌, sym, subst, arith, length, take, drop, length-take-le, take_at}
use Rattle.island.specs.Lent as island_lent
use Rattle.plan_questions.specs.Lent as plan_lent
use Rattle.island_run.proofs.Rooms.{lengths_same}
use Rattle.run_answer.specs.Lent.{with_counts}
use Rattle.frame_run.specs.Sized.{RoomySized}
use Rattle.frame_run.proofs.Entry.{counts_worn}
use Rattle.frame_run.proofs.Runs.{roomy_of, prepared_cut, room_cut, types_are_known, ran}
use Rattle.frame_run.proofs.run_sized.Goals as goal

pub fill-filling-requires-clause-roomy : goal.fill-filling-requires-clause-roomy
fill-filling-requires-clause-roomy c = roomy_of _ _ _ _ _ _ (plan_lent.tables_in c.args.plan.now) _ c.requires.roomy_sized

pub run_islands-tally-requires-clause-prepared : goal.run_islands-tally-requires-clause-prepared
run_islands-tally-requires-clause-prepared c =
    let f = c.fill-filling in
    let v = c.filled_in-filled.ensures in
    let k = c.requires.cut_to in
    let r = subst (λ (n : ℕ). RoomySized c.args.frame.now (island_lent.tables_in c.args.islands.now) c.args.turns.now (take (2 * c.args.asked.manifolds + c.args.asked.joint_ends) c.args.island_pairs.now) (take n c.args.island_counts.now) (take (c.args.asked.manifolds + c.args.asked.joints) c.args.numbers.now) (plan_lent.tables_in c.args.plan.now) (take n c.args.plan_counts.now)) (sym c.counts_room-counted.ensures) c.requires.roomy_sized in
    let n = c.args.asked.manifolds + c.args.asked.joints in
    let t : length (take n c.args.numbers.now) ≡ n = length-take-le n c.args.numbers.now k.numbers in
    let e : take n (f.new.numbers ++ drop n c.args.numbers.now) ≡ f.new.numbers = take_at f.new.numbers (drop n c.args.numbers.now) n (omega (arith, f.auto.numbers, t)) in
    rw (c.count_of.ensures, v.flags, v.counts, v.ends, v.labels, c.labels_in-labels.ensures, v.numbers, e)
    (prepared_cut c.args.frame.now c.requires.decodable.file f.new.tables.types.now f.new.tables.flags.now f.new.tables.pairs.now f.new.tables.counts.now f.new.tables.enabled.now _ _ f.new.numbers f.result f.ensures.filled
    _ _ _ _ _ _ _ _ r (lengths_same f.ensures.plan_lengths)
    (omega (arith, f.ensures.same_islands.long_manifold_islands, r.islands.manifold_islands)) (omega (arith, f.ensures.same_islands.long_joint_islands, r.islands.joint_islands))
    c.args.asked.manifolds c.args.asked.joints k.manifolds k.joints)

pub run_islands-tally-requires-clause-room : goal.run_islands-tally-requires-clause-room
run_islands-tally-requires-clause-room c =
    let f = c.fill-filling in
    let v = c.filled_in-filled.ensures in
    let k = c.requires.cut_to in
    rw (c.count_of.ensures, v.types, v.flags, v.counts, v.ends, v.labels, c.labels_in-labels.ensures)
    (room_cut c.args.frame.now c.requires.decodable.file f.new.tables.types.now f.new.tables.flags.now f.new.tables.pairs.now f.new.tables.counts.now f.new.tables.enabled.now _ _ f.new.numbers f.result f.ensures.filled c.args.asked.manifolds c.args.asked.joints k.manifolds k.joints _ c.requires.roomy_sized.turns)

pub filled_in-filled-requires : goal.filled_in-filled-requires
filled_in-filled-requires c =
    let f = c.fill-filling in
    types_are_known c.args.frame.now c.requires.decodable.file f.new.tables.types.now f.new.tables.flags.now f.new.tables.pairs.now f.new.tables.counts.now f.new.tables.enabled.now _ _ f.new.numbers f.result f.ensures.filled

pub returns-clause-ran : goal.returns-clause-ran
returns-clause-ran c =
    let f = c.fill-filling in
    let v = c.filled_in-filled.ensures in
    let k = c.requires.cut_to in
    ran c.args.frame.now c.requires.decodable.file f.new.tables.types.now f.new.tables.flags.now f.new.tables.pairs.now f.new.tables.counts.now f.new.tables.enabled.now _ _ f.new.numbers f.result f.ensures.filled c.args.asked.manifolds c.args.asked.joints k.manifolds k.joints _ _ _ _
    (rw (c.count_of.ensures, v.types, v.flags, v.counts, v.ends, v.labels, c.labels_in-labels.ensures) at c.run_islands-tally.ensures.appended) c.answer_of.ensures

pub returns-clause-worn_islands : goal.returns-clause-worn_islands
returns-clause-worn_islands c = counts_worn (with_counts c.args.asked.version) c.args.asked.manifolds c.args.asked.joints _ _ _ c.counts_room-counted.ensures c.run_islands-tally.auto.island_counts

pub returns-clause-worn_plan : goal.returns-clause-worn_plan
returns-clause-worn_plan c = counts_worn (with_counts c.args.asked.version) c.args.asked.manifolds c.args.asked.joints _ _ _ c.counts_room-counted.ensures c.run_islands-tally.auto.plan_counts
