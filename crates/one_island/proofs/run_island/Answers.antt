-- `run_island`: the plan as it stands makes the definition's takes, and these are appended group by group; the tables keep their lengths.
use Rattle.std.proofs.Common.{ap, arith}
use Rattle.plan_questions.specs.Lent.{PlanLengths}
use Rattle.one_island.proofs.Plans.{ready-counted}
use Rattle.one_island.proofs.run_island.Goals as goal

pub run_colored-requires-clause-counted : goal.run_colored-requires-clause-counted
run_colored-requires-clause-counted c =
    let k = ready-counted c.requires.ready in
    let s = c.color_island-plan.ensures.same_lengths in
    record {
      few = k.few;
      known = k.known;
      sum = k.sum;
      bounds = omega (arith, k.bounds, ap (λ (l : PlanLengths). l.body_constraints) s);
      positions_there = omega (arith, k.positions_there, ap (λ (l : PlanLengths). l.constraint_body_positions) s);
    }
