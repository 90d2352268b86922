-- The memory of a plan. While the plan and its tables hold what is remembered, the test for equal input compares with just that; so
-- an update answers as the definition does, and leaves the plan and the tables holding what is remembered then.
use Rattle.std.proofs.Common.{ℕ, ◌*◌, ◌/◌, ◌≡◌, refl, sym, ap, ap₂, ◌∙◌, Bool, true, false, not, ◌&&◌, ◌||◌, List, ◌∷◌, arith, eqb, length, take, eqb-true, eq-eqb}
use Rattle.std.proofs.Math.Bool.{or-false, or-true, or_assoc}
use Rattle.lists.specs.Basics.{any, same}
use Rattle.lists.proofs.Laws.{and_left, and_right, and_both, by_cases, bool_ext}
use Rattle.groups.specs.Groups.{plan_from, pairs_of, colors_of, group_count, largest_group, flatten, color_from}
use Rattle.groups.proofs.Pairs.{pairs_length}
use Rattle.plan_questions.specs.Plans.{Tables, roomy}
use Rattle.constraint_coloring.specs.declared.ConstraintColoring.{ConstraintColoring}
use Rattle.constraint_coloring.specs.declared.Update.{Update}
use Rattle.constraint_coloring.specs.Calls.{update_changed, plan_after, fresh_plan, holds, refusal_with, changes_with, Updated}
use Rattle.constraint_coloring.proofs.Accepted.{accepted}
use Rattle.plan_history.specs.Memory.{Memory, fresh, changes, remembered, Input, Answered, answers}
use Rattle.plan_history.specs.History.{answer_of, History, still, step, memory_after, Stands, Standing}
use Rattle.plan_history.proofs.Memory.{same-eq}
use Rattle.plan_history.proofs.Held.{stand_same, held-new, held_old, held-fresh}

-- ---- the test for equal input

abbrev Even : List ℕ → Type 0
Even pairs = length pairs ≡ 2 * (length pairs / 2)

module _ (flags pairs mf mp D E : List ℕ) (df : Stands mf D) (ep : Stands mp E) (even : Even pairs) (even_m : Even mp) where
  abbrev bodies : Bool
  bodies = eqb (length flags) (length mf)

  abbrev counts : Bool
  counts = eqb (length pairs / 2) (length (pairs_of mp))

  abbrev first : Bool
  first = same flags (take (length flags) D)

  abbrev second : Bool
  second = same pairs (take (length pairs) E)

  tested : (bodies && counts && first && second) ≡ true → (same flags mf && same pairs mp) ≡ true
  tested h =
      let b = eqb-true (length flags) (length mf) (and_left bodies counts (and_left (bodies && counts) first (and_left (bodies && counts && first) second h))) in
      let n = eqb-true (length pairs / 2) (length (pairs_of mp)) (and_right bodies counts (and_left (bodies && counts) first (and_left (bodies && counts && first) second h))) in
      let l : length pairs ≡ length mp = omega (arith, even, even_m, n, pairs_length (length mp / 2) mp even_m) in
      let x = and_right (bodies && counts) first (and_left (bodies && counts && first) second h) in
      let y = and_right (bodies && counts && first) second h in
      and_both (same flags mf) (same pairs mp)
      (sym (stand_same flags mf D df b) ∙ x)
      (sym (stand_same pairs mp E ep l) ∙ y)

  equal : (same flags mf && same pairs mp) ≡ true → (bodies && counts && first && second) ≡ true
  equal h =
      let x = and_left (same flags mf) (same pairs mp) h in
      let y = and_right (same flags mf) (same pairs mp) h in
      let f = ap length (same-eq flags mf x) in
      let p = ap length (same-eq pairs mp y) in
      let l : length pairs / 2 ≡ length (pairs_of mp) = sym (pairs_length (length pairs / 2) mp (sym p ∙ even)) in
      and_both (bodies && counts && first) second
      (and_both (bodies && counts) first (and_both bodies counts (eq-eqb (length flags) (length mf) f) (eq-eqb (length pairs / 2) (length (pairs_of mp)) l)) (stand_same flags mf D df f ∙ x))
      (stand_same pairs mp E ep p ∙ y)

  test_is : (bodies && counts && first && second) ≡ (same flags mf && same pairs mp)
  test_is = bool_ext (bodies && counts && first && second) (same flags mf && same pairs mp) tested equal

-- ---- one update

record Remembers (begun : Bool) (m : Memory) (p : ConstraintColoring) (t : Tables) : Type 0 where
  pub standing : Standing begun m p t
  pub even : Even m.pairs

module _ (begun : Bool) (m : Memory) (p : ConstraintColoring) (t u : Tables) (flags pairs : List ℕ) (r : Update ConstraintColoring) (h : Remembers begun m p t) (w : Updated p flags pairs t u r) where
  abbrev room : Bool
  room = roomy (length flags) (length pairs / 2) t

  abbrev ch : Bool
  ch = changes_with p t flags pairs

  -- with equal counts and lists where they stand, the test is the definition's
  holds_is : Even pairs → holds p t flags pairs ≡ (same flags m.flags && same pairs m.pairs)
  unfolding holds plan_from
  holds_is even =
      ap (λ (q : ConstraintColoring). eqb (length flags) q.body_count && eqb (length pairs / 2) q.constraint_count && same flags (take (length flags) t.dynamic_bodies) && same pairs (take (length pairs) t.endpoints)) h.standing.plan
      ∙ test_is flags pairs m.flags m.pairs t.dynamic_bodies t.endpoints h.standing.tables.dynamic_bodies h.standing.tables.endpoints even h.even

  changes_is : ch ≡ changes m flags pairs room
  unfolding changes_with refusal_with changes
  changes_is = by_cases (eqb (refusal_with t flags pairs) 0)
      (λ e. ap (λ (b : Bool). eqb (refusal_with t flags pairs) 0 && not b) (holds_is (accepted flags pairs t (eqb-true (refusal_with t flags pairs) 0 e)).even))
      (λ e. rw e)

  answer_is : answer_of r ≡ record { refusal = refusal_with t flags pairs; changed = changes m flags pairs room }
  answer_is = ap₂ (λ (n : ℕ) (b : Bool). record { refusal = n; changed = b }) w.refusal (w.changed ∙ changes_is)

  changed_even : ch ≡ true → Even pairs
  unfolding changes_with
  changed_even y = (accepted flags pairs t (eqb-true (refusal_with t flags pairs) 0 (and_left (eqb (refusal_with t flags pairs) 0) (not (holds p t flags pairs)) y))).even

  after-new : ch ≡ true → Remembers true (record { flags = flags; pairs = pairs }) (plan_after p r) u
  after-new y = record { standing = record { plan = w.plan ∙ rw y; tables = held-new ch w.tables y }; even = changed_even y }

  after_old : ch ≡ false → Remembers begun m (plan_after p r) u
  after_old n = record { standing = record { plan = w.plan ∙ rw n h.standing.plan; tables = held_old ch w.tables begun m.flags m.pairs _ n h.standing.tables }; even = h.even }

  after : Remembers (begun || update_changed r) (remembered m flags pairs room) (plan_after p r) u
  unfolding remembered
  after = by_cases ch
      (λ y.
      let b : (begun || update_changed r) ≡ true = ap (λ (c : Bool). begun || c) (w.changed ∙ y) ∙ or-true begun in
      let c : changes m flags pairs room ≡ true = sym changes_is ∙ y in
      rw (b, c) (after-new y))
      (λ n.
      let b : (begun || update_changed r) ≡ begun = ap (λ (c : Bool). begun || c) (w.changed ∙ n) ∙ or-false begun in
      let c : changes m flags pairs room ≡ false = sym changes_is ∙ n in
      rw (b, c) (after_old n))

-- ---- any list of updates

abbrev any_changed : List Answered → Bool
any_changed outs = any (λ a. a.changed) outs

history_from : {p q : ConstraintColoring} {t v : Tables} {ins : List Input} {outs : List Answered} (begun : Bool) (m : Memory) → Remembers begun m p t → History p t ins outs q v
    → (outs ≡ answers m ins) × Remembers (begun || any_changed outs) (memory_after m ins) q v
unfolding answers refusal_with
history_from begun m h still = (refl, rw or-false h)
history_from {p} {q} {t} {v} begun m h (step {u = u} {ins = ins} {outs = outs} flags pairs r w rest) =
    let rest_is = history_from (begun || update_changed r) (remembered m flags pairs (roomy (length flags) (length pairs / 2) t)) (after begun m p t u flags pairs r h w) rest in
    (ap₂ (λ (a : Answered) (as' : List Answered). a ∷ as') (answer_is begun m p t u flags pairs r h w) rest_is.0, rw or_assoc at rest_is.1)

fresh_remembers : (t : Tables) → Remembers false fresh fresh_plan t
unfolding plan_from colors_of group_count largest_group flatten color_from
fresh_remembers t = record { standing = record { plan = refl; tables = held-fresh t }; even = refl }

-- the memory theorem: after any list of updates from a fresh plan the answers are the definition's, and plan and tables hold what is remembered
pub memory : {q : ConstraintColoring} {t v : Tables} {ins : List Input} {outs : List Answered} → History fresh_plan t ins outs q v
    → (outs ≡ answers fresh ins) × Standing (any (λ a. a.changed) outs) (memory_after fresh ins) q v
memory {t = t} h =
    let w = history_from false fresh (fresh_remembers t) h in
    (w.0, w.1.standing)
