-- `island_joins::join_live` meets its contract: the dynamic ones of the bodies are joined, and all are constrained.
use Rattle.std.proofs.Common.{ℕ, List, [], ◌∷◌, true, get_or, sym, subst, arith}
use Rattle.frame.specs.Frames.{none}
use Rattle.island_labels.proofs.Labelling.{tied}
use Rattle.island_joins.specs.Joins.{Joined}
use Rattle.island_joins.proofs.Joining.{two_ends, joined_live}
use Rattle.island_joins.proofs.join_live.Goals as goal

pub returns-in-len2 : goal.returns-in-len2
returns-in-len2 c =
    let a = c.args in
    let j = c.join_dynamic in (
      j.ensures.0,
      subst (λ (bs : List ℕ). Joined a.body_types.now (tied true bs ∷ []) a.sets.now.parents.now a.body_islands.now j.new.sets.parents.now c.clear_each.new.table)
          (sym (two_ends a.ends.now (omega arith)))
          (joined_live a.body_types.now (get_or a.ends.now 0 0 ∷ get_or a.ends.now 1 0 ∷ []) a.sets.now.parents.now a.body_islands.now j.new.sets.parents.now c.clear_each.new.table j.ensures.1 (c.clear_each.ensures none)),
    )

pub returns-in_default : goal.returns-in_default
returns-in_default c =
    let a = c.args in
    let j = c.join_dynamics in
    (j.ensures.0, joined_live a.body_types.now a.ends.now a.sets.now.parents.now a.body_islands.now j.new.sets.parents.now c.clear_each-in_default.new.table j.ensures.1 (c.clear_each-in_default.ensures none))
