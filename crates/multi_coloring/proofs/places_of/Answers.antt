-- `places_of`: the places between the counts before and the constraint's own end inside the table, and are the definition's.
use Rattle.std.proofs.Common.{rules, ◌+◌, ◌-◌, ◌≤◌, ◌≡◌, arith, length}
use Rattle.multi_coloring.proofs.Lookups.{end_inside, positions_are}
use Rattle.multi_coloring.proofs.places_of.Goals as goal
use Rattle.multi_coloring.proofs.places_of.Goals.{After-read_count}

inside : (p : After-read_count) → p.ends_read-start.result + p.read_count.result ≤ length p.args.constraint_body_positions.now
inside p = end_inside _ _ _ p.requires.counts.2 p.requires.places _ _ _ p.requires.counts.0 p.ends_read-start.ensures p.read_count.ensures

pub overflow_add-end : goal.overflow_add-end
overflow_add-end c = let h = inside (goal.at.overflow_add-end c).After-read_count in search rules

pub offset_bounds-constraint_body_positions-start : goal.offset_bounds-constraint_body_positions-start
offset_bounds-constraint_body_positions-start c = let h = inside (goal.at.offset_bounds-constraint_body_positions-start c).After-read_count in search rules

pub slice_bounds-result-end : goal.slice_bounds-result-end
slice_bounds-result-end c = inside (goal.at.slice_bounds-result-end c).After-read_count

pub returns : goal.returns
returns c =
    let count = c.read_count.result in
    let long : c.ends_read-start.result + count - c.ends_read-start.result ≡ count = omega arith in
    rw long (positions_are _ _ _ c.requires.counts.2 c.requires.places _ _ _ c.requires.counts.0 c.ends_read-start.ensures c.read_count.ensures)
