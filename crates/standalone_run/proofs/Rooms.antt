-- Tables of the largest sizes have room for every frame that passes questions 1 to 5, so that question 6 is left of the turn table.
use Rattle.std.proofs.Common.{ℕ, ◌+◌, ◌≤◌, ◌≡◌, ◌∙◌, Bool, true, List, Result, arith, eqb, length, le-leb, eqb-true}
use Rattle.std.proofs.Math.Bool.{and-true}
use Rattle.lists.proofs.Laws.{by_cases}
use Rattle.frame.specs.Questions.{asked}
use Rattle.frame.specs.Files.{second, count_b, count_m, count_j, file_questions}
use Rattle.plan_questions.specs.Plans as plans
use Rattle.plan_questions.proofs.Rooms.{with_fitted}
use Rattle.schedules.specs.Runs.{run_refusal, run_of}
use Rattle.frame.specs.declared.refusal.Refusal.{Refusal}
use Rattle.run_answer.specs.declared.Report.{Report}
use Rattle.run_answer.specs.Lent.{Lent, entries_for, counts_room, roomy_for}
use Rattle.frame_run.specs.Calls.{roomy_in, Ran}
use Rattle.frame_run.proofs.Runs.{all_asked}
use Rattle.frame.proofs.Files.{file_sized}
use Rattle.standalone_run.specs.Runs.{roomy_turns, RanAlone}

-- the largest sizes, but for the turn table
pub record Ample (l : Lent) : Type 0 where
  pub parents : 4096 ≤ length l.islands.parents
  pub sizes : 4096 ≤ length l.islands.sizes
  pub body_islands : 4096 ≤ length l.islands.body_islands
  pub manifold_islands : 4096 ≤ length l.islands.manifold_islands
  pub joint_islands : 4096 ≤ length l.islands.joint_islands
  pub types : 4096 ≤ length l.types
  pub flags : 4096 ≤ length l.flags
  pub pairs : 24576 ≤ length l.pairs
  pub island_pairs : 24576 ≤ length l.island_pairs
  pub counts : 8192 ≤ length l.counts
  pub island_counts : 8192 ≤ length l.island_counts
  pub enabled : 4096 ≤ length l.enabled
  pub numbers : 8192 ≤ length l.numbers
  pub dynamic_bodies : 4096 ≤ length l.plan.dynamic_bodies
  pub endpoints : 24576 ≤ length l.plan.endpoints
  pub body_offsets : 4097 ≤ length l.plan.body_offsets
  pub body_constraints : 24576 ≤ length l.plan.body_constraints
  pub scratch_offsets : 8192 ≤ length l.plan.scratch_offsets
  pub constraint_colors : 8192 ≤ length l.plan.constraint_colors
  pub color_stamps : 8192 ≤ length l.plan.color_stamps
  pub body_stamps : 4096 ≤ length l.plan.body_stamps
  pub color_offsets : 8193 ≤ length l.plan.color_offsets
  pub colored_constraints : 8192 ≤ length l.plan.colored_constraints
  pub color_body_offsets : 8193 ≤ length l.plan.color_body_offsets
  pub color_bodies : 24576 ≤ length l.plan.color_bodies
  pub constraint_body_positions : 24576 ≤ length l.plan.constraint_body_positions
  pub plan_counts : 8192 ≤ length l.plan_counts

-- what it asks for is at most that, of either version
few_entries : (v : Bool) (m j : ℕ) → m ≤ 4096 → j ≤ 4096 → entries_for v m j ≤ 24576
few_entries v m j a b = by_cases v (λ e. rw e (omega arith)) (λ e. rw e (omega arith))

few_counts : (v : Bool) (m j : ℕ) → m ≤ 4096 → j ≤ 4096 → counts_room v m j ≤ 8192
few_counts v m j a b = by_cases v (λ e. rw e (omega arith)) (λ e. rw e (omega arith))

module _ (bs : List ℕ) (l : Lent) (h : Ample l) where
  module _ (b : count_b bs ≤ 4096) (m : count_m bs ≤ 4096) (j : count_j bs ≤ 4096) where
    entries : entries_for (second bs) (count_m bs) (count_j bs) ≤ 24576
    entries = few_entries (second bs) (count_m bs) (count_j bs) m j

    counts : counts_room (second bs) (count_m bs) (count_j bs) ≤ 8192
    counts = few_counts (second bs) (count_m bs) (count_j bs) m j

    plan_fits : plans.roomy_with (count_b bs) (count_m bs + count_j bs) (entries_for (second bs) (count_m bs) (count_j bs)) l.plan ≡ true
    plan_fits =
        with_fitted (count_b bs) (count_m bs + count_j bs) (entries_for (second bs) (count_m bs) (count_j bs)) l.plan
        (omega (arith, h.dynamic_bodies), (omega (arith, entries, h.endpoints), (omega (arith, h.body_offsets), (omega (arith, entries, h.body_constraints), (omega (arith, h.scratch_offsets), (omega (arith, h.scratch_offsets), (omega (arith, h.constraint_colors), (omega (arith, h.color_stamps), (omega (arith, h.body_stamps), (omega (arith, h.color_offsets), (omega (arith, h.colored_constraints), (omega (arith, h.color_body_offsets), (omega (arith, entries, h.color_bodies), (omega (arith, entries, h.constraint_body_positions), tt))))))))))))))

  -- every other comparison of question 6 holds
  room-left : asked (file_questions bs) ≡ 0 → roomy_in bs l ≡ roomy_turns bs l.turns
  unfolding roomy_in roomy_for
  room-left q =
      let s = file_sized bs q in
      let b = s.bodies in
      let m = s.manifolds in
      let j = s.joints in
      let e = entries b m j in
      let c = counts b m j in
      let v = second bs in simp (
        le-leb (count_b bs) (length l.islands.parents) (omega (arith, b, h.parents)),
        le-leb (count_b bs) (length l.islands.sizes) (omega (arith, b, h.sizes)),
        le-leb (count_b bs) (length l.islands.body_islands) (omega (arith, b, h.body_islands)),
        le-leb (count_m bs) (length l.islands.manifold_islands) (omega (arith, m, h.manifold_islands)),
        le-leb (count_j bs) (length l.islands.joint_islands) (omega (arith, j, h.joint_islands)),
        le-leb (count_b bs) (length l.types) (omega (arith, b, h.types)),
        le-leb (count_b bs) (length l.flags) (omega (arith, b, h.flags)),
        le-leb (entries_for v (count_m bs) (count_j bs)) (length l.pairs) (omega (arith, e, h.pairs)),
        le-leb (entries_for v (count_m bs) (count_j bs)) (length l.island_pairs) (omega (arith, e, h.island_pairs)),
        le-leb (counts_room v (count_m bs) (count_j bs)) (length l.counts) (omega (arith, c, h.counts)),
        le-leb (counts_room v (count_m bs) (count_j bs)) (length l.island_counts) (omega (arith, c, h.island_counts)),
        le-leb (counts_room v (count_m bs) (count_j bs)) (length l.plan_counts) (omega (arith, c, h.plan_counts)),
        le-leb (count_j bs) (length l.enabled) (omega (arith, j, h.enabled)),
        le-leb (count_m bs + count_j bs) (length l.numbers) (omega (arith, m, j, h.numbers)),
        plan_fits b m j,
        and-true,
      )

  refusal-same : run_refusal bs (roomy_in bs l) ≡ run_refusal bs (roomy_turns bs l.turns)
  refusal-same = rw (all_asked bs (roomy_in bs l), all_asked bs (roomy_turns bs l.turns)) (by_cases (eqb (asked (file_questions bs)) 0)
      (λ t. rw (room-left (eqb-true _ 0 t)))
      (λ t. rw t))

  run_same : run_of bs (roomy_in bs l) ≡ run_of bs (roomy_turns bs l.turns)
  unfolding run_of
  run_same = rw refusal-same

  pub ran_alone : (m : Lent) (r : Result Report Refusal) → Ran bs l m r → RanAlone bs l.turns m.turns r
  ran_alone m r a = record {
    refusal = a.refusal ∙ refusal-same;
    refused = a.refused ∙ rw refusal-same;
    report = a.report ∙ rw run_same;
    turns = a.turns ∙ rw run_same;
  }
