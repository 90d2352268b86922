-- `island_joins::join_dynamic` meets its contract: two bytes are 2 and 2 exactly if they make the number 514; such a pair has one edge, and any other none.
use Rattle.std.proofs.Common.{ℕ, length, ap, ◌∙◌, arith}
use Rattle.island_sets.specs.Sets.{root_of, hang}
use Rattle.island_sets.proofs.Keeps.{kept_here}
use Rattle.island_joins.proofs.Joining.{join_off, join-on}
use Rattle.island_joins.proofs.join_dynamic.Goals as goal

pub returns-then-types-ne-BOTH_DYNAMIC : goal.returns-then-types-ne-BOTH_DYNAMIC
returns-then-types-ne-BOTH_DYNAMIC c =
    let a = c.args in
    let u = c.from-type_a in
    let v = c.from-type_b in
    (kept_here a.sets.now, join_off (length a.body_types.now) (root_of a.sets.now.parents.now) a.body_types.now a.a a.b u.result v.result (rw c.from.ensures at u.ensures) (rw c.from-2.ensures at v.ensures) (omega arith) c.if-types-ne-BOTH_DYNAMIC.true)

pub returns : goal.returns
returns c =
    let a = c.args in
    let u = c.from-type_a in
    let v = c.from-type_b in
    let n = length a.body_types.now in (
      c.union.ensures.0,
      c.union.ensures.1 ∙ ap (λ (m : ℕ). hang m (root_of a.sets.now.parents.now) a.a a.b) c.requires.0
          ∙ join-on n (root_of a.sets.now.parents.now) a.body_types.now a.a a.b u.result v.result (rw c.from.ensures at u.ensures) (rw c.from-2.ensures at v.ensures) (omega arith) c.if-types-ne-BOTH_DYNAMIC.false,
    )
