-- The plan as it stands after the update of an island hands back what the definition's plan does, so its groups make the same takes. The
-- update is accepted, since its questions are and there is room.
use Rattle.std.proofs.Common.{ℕ, ◌*◌, ◌/◌, ◌≤◌, ◌<◌, ◌≡◌, refl, sym, ap, ◌∙◌, subst, true, List, [], arith, eqb, length, take, length-take-le, eqb-true, ne_eqb, le-leb}
use Rattle.std.proofs.lemmas.Bool.{eqb-false}
use Rattle.lists.specs.Basics.{join_map, range}
use Rattle.lists.proofs.Laws.{by_cases, range_high, pigeonhole, no_length}
use Rattle.lists.proofs.Ranges.{join_map_ext_in}
use Rattle.groups.specs.Groups.{Plan, pairs_of, counted_parts, colors_of, group_count}
use Rattle.groups.proofs.Colors.{colors-length, group_not_empty}
use Rattle.constraint_coloring.specs.declared.ConstraintColoring.{ConstraintColoring}
use Rattle.constraint_coloring.specs.declared.Update.{Update}
use Rattle.plan_questions.specs.Plans.{Tables, roomy_with}
use Rattle.constraint_coloring.specs.Calls.{fresh_plan, plan_after, refusal_with, Updated}
use Rattle.multi_coloring.specs.declared.MultiColoring.{MultiColoring}
use Rattle.multi_coloring.specs.Counts.{multi_update_refusal}
use Rattle.multi_coloring.specs.Calls.{fresh_multi, multi_refusal_with, numbers_of, MultiUpdated}
use Rattle.frame.proofs.Counted.{known-few}
use Rattle.multi_coloring.proofs.Accepted.{Accepted, accepted, two-each}
use Rattle.schedules.specs.Runs.{freshly, members_in, bodies_in, lookup_refusal, lookup_of, take_rank}
use Rattle.schedules.proofs.Standing.{Lookups, asked_pairs, fresh_pairs, updated_pairs, few_pairs, fresh-counts, updated_lent, constraints-lent, few-counts}
use Rattle.schedules.proofs.Condition3.{same_calls}
use Rattle.group_run.specs.Appends.{seen, calls_in, plan_calls, Countable}
use Rattle.parts.specs.Steps.{BoundsOf}
use Rattle.one_island.specs.Island.{island_calls, ranks, Ready, Counted, Colored}

-- two plans whose lookups hand back the same make the same takes
same-plan_calls : (flags : List ℕ) (cs : List (List ℕ)) (p q : Plan) → Lookups flags cs p → Lookups flags cs q → (types ns : List ℕ) (i : ℕ) → plan_calls p types ns i ≡ plan_calls q types ns i
unfolding plan_calls calls_in
same-plan_calls flags cs p q lp lq types ns i =
    let g : p.groups ≡ q.groups = lp.groups ∙ sym lq.groups in
    ap (λ (n : ℕ). join_map (calls_in p types ns i) (range n)) g
    ∙ join_map_ext_in _ _ (range q.groups)
    (λ k m.
    let h : k < q.groups = omega (arith, range_high k 0 q.groups m) in
    let h' : k < p.groups = omega (arith, g) in
    rw (lp.bodies k h', lp.members k h', lq.bodies k h, lq.members k h)
    (same_calls p q ns i k (λ b r. lp.takes b r ∙ sym (lq.takes b r)) _ _))

-- a plan whose lookups are those of these few constraints makes the definition's takes
module _ (flags counts ends : List ℕ) (cs : List (List ℕ)) (few : length cs ≤ 8192) (u : Tables) (p : ConstraintColoring) where
  abbrev after : Plan
  after = seen p counts u.color_offsets u.colored_constraints u.color_body_offsets u.color_bodies u.constraint_body_positions

  colored : ((length counts ≡ 0 → ⊥) → p.constraint_count ≡ length counts) → Lookups flags cs after → Lookups flags cs (freshly flags counts ends) → Colored flags counts ends p u
  unfolding island_calls
  colored c l d = record {
    groups =
        let colors = colors_of flags cs in
        omega (arith, few, l.groups, pigeonhole (group_count colors) colors (group_not_empty flags cs), colors-length flags cs);
    constraints = c;
    takes = λ types ns i. same-plan_calls flags cs after (freshly flags counts ends) l d types ns i;
  }

-- ---- the plan of an update that is accepted
module _ {flags counts ends old : List ℕ} {n : ℕ} {t : Tables} (ready : Ready flags counts ends n t old) where
  module _ (some : length counts ≡ 0 → ⊥) where
    asks_counts : multi_update_refusal flags ends counts true ≡ 0
    asks_counts = rw (ne_eqb (length counts) 0 some) at ready.accepted

    asks_multi : multi_refusal_with t old flags ends counts ≡ 0
    unfolding multi_refusal_with
    asks_multi =
        let m : n ≡ length counts = ready.ranked ∙ rw (ne_eqb (length counts) 0 some) in
        let room : roomy_with (length flags) (length counts) (length ends) t ≡ true = rw m at ready.tables in
        rw (le-leb (length counts) (length old) ready.plan_counts_room, room) asks_counts

    passed_counts : Accepted flags ends counts t old
    passed_counts = accepted flags ends counts t old asks_multi

-- of pairs
module _ (flags ends : List ℕ) (t u : Tables) (ready : Ready flags [] ends (ranks [] ends) t []) where
  with_tables : refusal_with t flags ends ≡ 0
  unfolding refusal_with
  with_tables =
      let room : roomy_with (length flags) (length ends / 2) (2 * (length ends / 2)) t ≡ true = subst (λ (e : ℕ). roomy_with (length flags) (length ends / 2) e t ≡ true) (asked_pairs flags ends true ready.accepted).1 ready.tables in
      rw room ready.accepted

  pub pairs_colored : (new plan : ConstraintColoring) (r : Update ConstraintColoring) → new ≡ fresh_plan → Updated new flags ends t u r → plan ≡ plan_after new r → Colored flags [] ends plan u
  unfolding members_in bodies_in take_rank lookup_refusal lookup_of
  pairs_colored new plan r e up f =
      let l = updated_pairs flags ends t u r with_tables (rw e at up) in
      rw (f, e) (colored flags [] ends (pairs_of ends) (few_pairs flags ends true ready.accepted) u (plan_after fresh_plan r)
      (λ s. absurd (s refl))
      (record { groups = l.groups; members = l.members; bodies = l.bodies; takes = l.takes })
      (fresh_pairs flags ends ready.accepted))

-- of constraints that have a count each
module _ (flags counts ends old left : List ℕ) (t u : Tables) (ready : Ready flags counts ends (ranks counts ends) t old) (some : length counts ≡ 0 → ⊥) where
  pub counts_colored : (new after : MultiColoring) (r : Update MultiColoring) → new ≡ fresh_multi → MultiUpdated new flags ends counts t old u left r → after ≡ plan_after new r → Colored flags counts ends after.plan u
  unfolding members_in bodies_in take_rank lookup_refusal lookup_of
  counts_colored new after r e up f =
      let ok = asks_multi ready some in
      let up' : MultiUpdated fresh_multi flags ends counts t old u left r = rw e at up in
      let l = updated_lent flags ends counts t u old left r ok up' in
      let asked = asks_counts ready some in
      rw (f, e) (colored flags counts ends (counted_parts counts ends) (few-counts flags ends counts true asked) u (numbers_of (plan_after fresh_multi r))
      (λ s. constraints-lent flags ends counts t u old left r ok up')
      (record { groups = l.groups; members = l.members; bodies = l.bodies; takes = l.takes })
      (fresh-counts flags ends counts asked))

-- ---- the bounds of the constraints, and their positions

module _ {flags counts ends old : List ℕ} {n : ℕ} {t : Tables} (ready : Ready flags counts ends n t old) where
  pub ready-counted : Counted counts t.body_constraints t.constraint_body_positions
  ready-counted = by_cases (eqb (length counts) 0)
      (λ e. rw (no_length counts (eqb-true (length counts) 0 e)) (record { few = omega arith; known = refl; sum = omega arith; bounds = omega arith; positions_there = omega arith }))
      (λ e.
      let a = passed_counts ready (eqb-false (length counts) 0 e) in
      record {
        few = a.few;
        known = a.known;
        sum = known-few _ a.known a.few;
        bounds = omega (arith, two-each a, a.tables.1.1.1.0);
        positions_there = omega (arith, a.whole, a.tables.1.1.1.1.1.1.1.1.1.1.1.1.1.0);
      })

-- ---- the counts of an island with its plan, once their bounds stand in a table

pub colored_countable : (after : List ℕ) {counts before positions : List ℕ} {q : ConstraintColoring} → Counted counts before positions → ((length counts ≡ 0 → ⊥) → q.constraint_count ≡ length counts)
    → BoundsOf counts (take (2 * length counts) after) → length after ≡ length before → Countable q counts (take (2 * length counts) after) positions
colored_countable after {counts} {before} k c b l = record {
  constraints = c;
  few = k.few;
  known = k.known;
  bounds_of = b;
  long = length-take-le (2 * length counts) after (omega (arith, k.bounds));
  inside = k.positions_there;
}
