-- `island_joins::join_one` meets its contract: a constraint that is not live joins and constrains nothing, a live one that passes question 7 has its bodies inside the tables.
use Rattle.std.proofs.Common.{length, sym, ◌∙◌}
use Rattle.std.proofs.Math.Bool.{and-true}
use Rattle.frame.specs.Constraints.{lent}
use Rattle.frame.proofs.Counted.{sound-fits}
use Rattle.island_sets.proofs.Keeps.{kept_here}
use Rattle.island_joins.proofs.Joining.{joined_dead}
use Rattle.island_joins.proofs.join_one.Goals as goal

pub returns-then-not-constraint : goal.returns-then-not-constraint
returns-then-not-constraint c =
    let a = c.args in
    record {
      kept = kept_here a.sets.now;
      answer = sym c.if-not-sound_one.false ∙ c.sound_one.ensures ∙ sym (and-true _);
      joined = λ e. joined_dead a.body_types.now a.sets.now.parents.now a.body_islands.now a.constraint.live a.constraint.ends.now c.if-not-constraint.true;
    }

pub join_live-requires : goal.join_live-requires
join_live-requires c =
    let a = c.args in
    (c.requires, (sound-fits (length a.body_types.now) (lent a.constraint) c.if-not-constraint.false (sym c.sound_one.ensures ∙ c.if-not-sound_one.false)).inside)

pub returns : goal.returns
returns c =
    record {
      kept = c.join_live.ensures.0;
      answer = sym c.if-not-sound_one.false ∙ c.sound_one.ensures ∙ sym (and-true _);
      joined = λ e. rw c.if-not-constraint.false c.join_live.ensures.1;
    }
