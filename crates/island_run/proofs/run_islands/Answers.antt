use Rattle.std.proofs.Common.{rules, ◌+◌, ◌-◌, ◌≤◌, ◌≡◌, sym, ap, ◌∙◌, arith, length, take, drop}
use Rattle.groups.proofs.Tables.{flatten-zero}
use Rattle.group_run.proofs.Appends.{going_first, going_room, going_more}
use Rattle.island_numbers.specs.Numbers.{counts_among}
use Rattle.island_run.proofs.Loop.{islands-first, first-ends, part_count, next_start, part_inside, part-few, counts_there, counts_taken, counts-few, ends_next, ends_there, ready, island_next, tally_none, part_there}
use Rattle.island_run.proofs.Rooms.{lengths_same, same_twice}
use Rattle.island_run.proofs.run_islands.Goals as goal
use Rattle.island_run.proofs.run_islands.Goals.{After-part_end-end, After-count_ends}

-- what is known of the island's part: it lies inside the numbers, its counts are those between, its endpoints lie inside the endpoints
below : (c : After-part_end-end) → c.loop-island.start ≤ c.part_end-end.result
below c = omega (arith, part_count c.requires.prepared (omega arith) c.loop-island.invariant.0 c.part_end-end.ensures)

inside : (c : After-part_end-end) → c.part_end-end.result ≤ length c.args.filled.numbers.now
inside c = part_inside c.requires.prepared (omega arith) c.loop-island.invariant.0 c.part_end-end.ensures

counts : (c : After-count_ends) → c.part_or_none-counts.result.now ≡ counts_among c.args.filled.counts.now (take (c.part_end-end.result - c.loop-island.start) (drop c.loop-island.start c.args.filled.numbers.now))
counts c = part_there _ c.loop-island.start c.part_end-end.result (counts_there c.requires.prepared (omega arith) c.loop-island.invariant.0 c.part_end-end.ensures c.collect.ensures.1) c.part_or_none-counts.ensures ∙ counts_taken c.requires.prepared (omega arith) c.loop-island.invariant.0 c.part_end-end.ensures c.collect.ensures.1

there : (c : After-count_ends) → c.loop-island.ends_start + c.count_ends.result ≤ length c.collect.new.island_ends
there c =
    ends_there c.requires.prepared (omega arith) c.loop-island.invariant.0 c.part_end-end.ensures
    (counts c) c.collect.ensures.0 c.loop-island.invariant.1 c.count_ends.ensures

pub loop-island-init : goal.loop-island-init
loop-island-init c = (sym (ap length (flatten-zero _)), first-ends _ _, going_first (islands-first _ _ _ _ _ _), search rules, search rules)

pub count_ends-requires : goal.count_ends-requires
count_ends-requires c = (
  part-few c.requires.prepared (omega arith) c.loop-island.invariant.0 c.part_end-end.ensures,
  omega (arith, ap length (part_there _ c.loop-island.start c.part_end-end.result (counts_there c.requires.prepared (omega arith) c.loop-island.invariant.0 c.part_end-end.ensures c.collect.ensures.1) c.part_or_none-counts.ensures), counts-few c.requires.prepared (omega arith) c.loop-island.invariant.0 c.part_end-end.ensures c.collect.ensures.1),
)

pub overflow_add-ends_end : goal.overflow_add-ends_end
overflow_add-ends_end c = omega (arith, there (goal.at.overflow_add-ends_end c).After-count_ends)

pub offset_bounds-island_ends-ends_start : goal.offset_bounds-island_ends-ends_start
offset_bounds-island_ends-ends_start c = omega (arith, there (goal.at.offset_bounds-island_ends-ends_start c).After-count_ends)

pub slice_bounds-part-end : goal.slice_bounds-part-end
slice_bounds-part-end c = there (goal.at.slice_bounds-part-end c).After-count_ends

pub offset_bounds-filled-start : goal.offset_bounds-filled-start
offset_bounds-filled-start c =
    let e = (goal.at.offset_bounds-filled-start c).After-part_end-end in
    omega (arith, below e, inside e)

pub slice_bounds-part-end-in-loop-island : goal.slice_bounds-part-end-in-loop-island
slice_bounds-part-end-in-loop-island c = inside (goal.at.slice_bounds-part-end-in-loop-island c).After-part_end-end

pub run_island-requires-clause-ready : goal.run_island-requires-clause-ready
run_island-requires-clause-ready c =
    ready c.requires.prepared (omega arith) c.loop-island.invariant.0 c.part_end-end.ensures
    (counts (goal.at.run_island-requires-clause-ready c).After-count_ends) c.collect.ensures.0 c.loop-island.invariant.1 c.count_ends.ensures _ _
    (lengths_same c.loop-island.invariant.4) c.loop-island.auto.plan_counts

pub run_island-requires-clause-room : goal.run_island-requires-clause-room
run_island-requires-clause-room c =
    going_room (rw (tally_none _ c.default.ensures) c.requires.room) c.loop-island.invariant.2 _ _
    (island_next c.requires.prepared (omega arith) c.loop-island.invariant.0 c.part_end-end.ensures
    (counts (goal.at.run_island-requires-clause-room c).After-count_ends) c.collect.ensures.0 c.loop-island.invariant.1 c.count_ends.ensures _)

pub loop-island-preserved : goal.loop-island-preserved
loop-island-preserved c =
    let pc = counts (goal.at.loop-island-preserved c).After-count_ends in (
      next_start c.requires.prepared (omega arith) c.loop-island.invariant.0 c.part_end-end.ensures,
      ends_next c.requires.prepared (omega arith) c.loop-island.invariant.0 c.part_end-end.ensures pc c.collect.ensures.0 c.loop-island.invariant.1 c.count_ends.ensures,
      going_more (rw (tally_none _ c.default.ensures) c.requires.room) c.loop-island.invariant.2 _ _ _
          (island_next c.requires.prepared (omega arith) c.loop-island.invariant.0 c.part_end-end.ensures pc c.collect.ensures.0 c.loop-island.invariant.1 c.count_ends.ensures _)
          c.run_island.ensures.appended,
      same_twice c.loop-island.invariant.3 c.run_island.ensures.same_tables,
      c.run_island.ensures.same_lengths ∙ c.loop-island.invariant.4,
    )
