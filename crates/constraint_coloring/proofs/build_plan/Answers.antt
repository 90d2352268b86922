-- `build_plan`: every table is long enough, so each stage is lent the places that it uses; what lies beyond them comes back as it was.
use Rattle.std.proofs.Common.{ℕ, ◌+◌, ◌≤◌, List, [], ◌++◌, ◌≡◌, refl, sym, ap, ◌∙◌, arith, length, take, drop, take_at, length-take-le}
use Rattle.std.proofs.Math.Seq.{length_front}
use Rattle.groups.specs.Groups.{plan_from, members, flatten, offsets}
use Rattle.parts.specs.Parts.{parts_at}
use Rattle.parts.specs.Steps.{widest}
use Rattle.parts.proofs.Groups.{offsets_rise}
use Rattle.coloring.specs.Coloring.{Colored}
use Rattle.plan_questions.specs.Plans.{tables_of}
use Rattle.constraint_coloring.specs.Stages.{Buildable}
use Rattle.constraint_coloring.proofs.Tables.{front_over, part-over}
use Rattle.constraint_coloring.proofs.Updates.{written_new, free_new}
use Rattle.constraint_coloring.proofs.Rebuilds.{largest_is, starts_front, promised, ready, groups_few, gatherable, plan_is, colors_planned, starts_planned, constraints_planned, body-starts_planned, bodies_planned, positions_planned}
use Rattle.constraint_coloring.proofs.build_plan.Goals as goal
use Rattle.constraint_coloring.proofs.build_plan.Goals.{After-color_constraints-color_count}

-- ---- what is lent to the walks
pub color_constraints-color_count-requires-clause-ready : goal.color_constraints-color_count-requires-clause-ready
color_constraints-color_count-requires-clause-ready c =
    let o = c.requires in
    ready o o.scratch_constraints (length-take-le _ _ o.constraint_colors) (length-take-le _ _ o.color_offsets) (length-take-le _ _ o.colored_constraints) (length-take-le _ _ o.body_stamps)

-- ---- the colors
module _ (p : After-color_constraints-color_count) where
  o : Buildable p.args.flags.now p.args.ends.endpoints.now p.args.ends.bounds.now p.args.ends.count (tables_of p.args.dynamic_bodies.now p.args.endpoints.now [] [] p.args.scratch_offsets.now p.args.constraint_colors.now [] p.args.body_stamps.now p.args.color_offsets.now p.args.colored_constraints.now p.args.color_body_offsets.now p.args.color_bodies.now p.args.constraint_body_positions.now)
  o = p.requires

  abbrev n : ℕ
  n = p.args.ends.count

  abbrev count : ℕ
  count = p.color_constraints-color_count.result

  -- the tables as the walks left them
  abbrev colors_table : List ℕ
  colors_table = p.color_constraints-color_count.new.constraint_colors ++ drop n p.args.constraint_colors.now

  abbrev starts_table : List ℕ
  starts_table = p.color_constraints-color_count.new.color_offsets ++ drop (n + 1) p.args.color_offsets.now

  abbrev members_table : List ℕ
  members_table = p.color_constraints-color_count.new.colored_constraints ++ drop n p.args.colored_constraints.now

  abbrev stamps_table : List ℕ
  stamps_table = p.color_constraints-color_count.new.busy_bodies ++ drop (length p.args.flags.now) p.args.body_stamps.now

  colored : Colored p.args.flags.now (parts_at n p.args.ends.bounds.now p.args.ends.endpoints.now) (take (n + 1) p.args.color_offsets.now) p.color_constraints-color_count.new.constraint_colors p.color_constraints-color_count.new.color_offsets p.color_constraints-color_count.new.colored_constraints p.color_constraints-color_count.new.busy_bodies count
  colored = rw (length-take-le n p.args.constraint_colors.now o.constraint_colors) at p.color_constraints-color_count.ensures

  few : count ≤ n
  few = groups_few o count colored.count_is

  -- the tables come back as long as they were
  colors_kept : length colors_table ≡ length p.args.constraint_colors.now
  colors_kept = length_front p.args.constraint_colors.now p.color_constraints-color_count.new.constraint_colors n p.color_constraints-color_count.auto.constraint_colors

  starts_kept : length starts_table ≡ length p.args.color_offsets.now
  starts_kept = length_front p.args.color_offsets.now p.color_constraints-color_count.new.color_offsets (n + 1) p.color_constraints-color_count.auto.color_offsets

  stamps_kept : length stamps_table ≡ length p.args.body_stamps.now
  stamps_kept = length_front p.args.body_stamps.now p.color_constraints-color_count.new.busy_bodies (length p.args.flags.now) p.color_constraints-color_count.auto.busy_bodies

  -- they are long enough for what is lent next
  colors-room : n ≤ length colors_table
  colors-room = omega (arith, colors_kept, o.constraint_colors)

  starts-room : count + 1 ≤ length starts_table
  starts-room = omega (arith, few, starts_kept, o.color_offsets)

  stamps_room : length p.args.flags.now ≤ length stamps_table
  stamps_room = omega (arith, stamps_kept, o.body_stamps)

  -- and these places hold what the walks left
  colors_are : take n colors_table ≡ promised o
  colors_are = take_at _ _ n (p.color_constraints-color_count.auto.constraint_colors ∙ length-take-le _ _ o.constraint_colors) ∙ colored.colors_are

  starts_are : take (count + 1) starts_table ≡ offsets (members (promised o)) count
  starts_are = starts_front (members (promised o)) count (n + 1) _ _ _ colored.starts_are (p.color_constraints-color_count.auto.color_offsets ∙ length-take-le _ _ o.color_offsets) (omega (arith, few))

  members_are : take n members_table ≡ flatten (members (promised o)) count
  members_are = take_at _ _ n (p.color_constraints-color_count.auto.colored_constraints ∙ length-take-le _ _ o.colored_constraints) ∙ colored.members_are

  stamps_are : take (length p.args.flags.now) stamps_table ≡ p.color_constraints-color_count.new.busy_bodies
  stamps_are = take_at _ _ (length p.args.flags.now) (p.color_constraints-color_count.auto.busy_bodies ∙ length-take-le _ _ o.body_stamps)

-- ---- what is lent for the listing
pub overflow_add-constraints : goal.overflow_add-constraints
overflow_add-constraints c = let p = (goal.at.overflow_add-constraints c).After-color_constraints-color_count in omega (arith, few p, (o p).few)

pub slice_bounds-constraints-end-3 : goal.slice_bounds-constraints-end-3
slice_bounds-constraints-end-3 c = starts-room (goal.at.slice_bounds-constraints-end-3 c).After-color_constraints-color_count

pub slice_bounds-constraints-end-4 : goal.slice_bounds-constraints-end-4
slice_bounds-constraints-end-4 c = sym (length-take-le _ _ (starts-room (goal.at.slice_bounds-constraints-end-4 c).After-color_constraints-color_count))

pub overflow_add-color_count : goal.overflow_add-color_count
overflow_add-color_count c = let p = (goal.at.overflow_add-color_count c).After-color_constraints-color_count in omega (arith, few p, (o p).few)

pub slice_bounds-list_groups-end-5 : goal.slice_bounds-list_groups-end-5
slice_bounds-list_groups-end-5 c = let p = (goal.at.slice_bounds-list_groups-end-5 c).After-color_constraints-color_count in omega (arith, few p, (o p).color_body_offsets)

pub slice_bounds-list_groups-end-6 : goal.slice_bounds-list_groups-end-6
slice_bounds-list_groups-end-6 c = let p = (goal.at.slice_bounds-list_groups-end-6 c).After-color_constraints-color_count in sym (length-take-le _ _ (omega (arith, few p, (o p).color_body_offsets)))

pub list_groups-requires-clause-counted : goal.list_groups-requires-clause-counted
list_groups-requires-clause-counted c =
    let p = (goal.at.list_groups-requires-clause-counted c).After-color_constraints-color_count in
    length-take-le (n p) (colors_table p) (colors-room p)

pub list_groups-requires-clause-arranged : goal.list_groups-requires-clause-arranged
list_groups-requires-clause-arranged c =
    let p = (goal.at.list_groups-requires-clause-arranged c).After-color_constraints-color_count in
    rw (length-take-le (n p) (colors_table p) (colors-room p)) (record { gapless = (o p).gapless; room = length-take-le _ _ (o p).constraint_body_positions })

pub list_groups-requires-clause-gatherable : goal.list_groups-requires-clause-gatherable
list_groups-requires-clause-gatherable c =
    let p = (goal.at.list_groups-requires-clause-gatherable c).After-color_constraints-color_count in
    let q = colored p in
    rw (length-take-le _ _ (stamps_room p)) (gatherable (o p) (count p) (colors_are p) q.count_is (starts_are p) (members_are p) (length-take-le _ _ (stamps_room p)) (λ b h. rw (stamps_are p) (q.idle b h))
    (omega (arith, p.color_constraints-color_count.auto.remaining, (o p).scratch_bodies)) (length-take-le _ _ (omega (arith, few p, (o p).color_body_offsets))) (length-take-le _ _ (o p).color_bodies))

-- ---- the largest group
pub largest_part-largest-requires : goal.largest_part-largest-requires
largest_part-largest-requires c =
    let p = (goal.at.largest_part-largest-requires c).After-color_constraints-color_count in
    rw (starts_are p) (offsets_rise (members (promised (o p))) (count p))

-- ---- the plan and the tables
pub returns : goal.returns
returns c =
    let p = (goal.at.returns c).After-color_constraints-color_count in
    let q = colored p in
    let k = count p in
    let s = colors_are p in
    let listed = rw (length-take-le _ _ (stamps_room p)) at c.list_groups.ensures in
    record {
      plan = plan_is (o p) k c.largest_part-largest.result q.count_is (c.largest_part-largest.ensures ∙ ap widest (starts_are p) ∙ largest_is (promised (o p)) k q.count_is);
      tables = record {
        dynamic_bodies = written_new _ _ _ c.copy_over.ensures;
        endpoints = written_new _ _ _ c.copy_over-2.ensures;
        body_offsets = free_new refl;
        body_constraints = free_new refl;
        scratch_offsets = free_new (c.list_groups.auto.scratch_offsets ∙ c.color_constraints-color_count.auto.remaining);
        constraint_colors = written_new _ _ _ (front_over _ _ _ _ (q.colors_are ∙ sym (colors_planned (o p))) c.color_constraints-color_count.auto.constraint_colors (o p).constraint_colors);
        color_stamps = free_new refl;
        body_stamps = free_new (length_front (stamps_table p) c.list_groups.new.body_stamps (length c.args.flags.now) c.list_groups.auto.body_stamps ∙ stamps_kept p);
        color_offsets = written_new _ _ _ (rw (starts_planned (o p) k q.count_is) (part-over _ (offsets (members (promised (o p))) k) c.args.color_offsets.now (n p + 1) q.starts_are c.color_constraints-color_count.auto.color_offsets));
        colored_constraints = written_new _ _ _ (front_over _ _ _ _ (q.members_are ∙ sym (constraints_planned (o p) k q.count_is)) c.color_constraints-color_count.auto.colored_constraints (o p).colored_constraints);
        color_body_offsets = written_new _ _ _ (front_over _ _ c.args.color_body_offsets.now (k + 1) (body-starts_planned (o p) s q.count_is listed) c.list_groups.auto.color_body_offsets (omega (arith, few p, (o p).color_body_offsets)));
        color_bodies = written_new _ _ _ (part-over _ (plan_from c.args.flags.now (parts_at (n p) c.args.ends.bounds.now c.args.ends.endpoints.now)).color_bodies c.args.color_bodies.now (length c.args.ends.endpoints.now) (bodies_planned (o p) s q.count_is listed) c.list_groups.auto.color_bodies);
        constraint_body_positions = written_new _ _ _ (front_over _ _ _ _ (positions_planned (o p) s q.count_is listed) c.list_groups.auto.constraint_body_positions (o p).constraint_body_positions);
      };
    }
