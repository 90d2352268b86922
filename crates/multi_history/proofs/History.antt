-- The memory of a plan with counts. While the plan, its tables and its counts hold what is remembered, the test for equal input compares with just
-- that; so an update answers as the definition does, and leaves them holding what is remembered then.
use Rattle.std.proofs.Common.{ℕ, ◌≡◌, refl, sym, ap, ap₂, ◌∙◌, Bool, true, false, not, ◌&&◌, ◌||◌, List, ◌∷◌, map, eqb, length, take, eqb-true, eq-eqb}
use Rattle.std.proofs.Math.Bool.{or-false, or-true, or_assoc}
use Rattle.lists.specs.Basics.{any, same}
use Rattle.lists.proofs.Laws.{and_left, and_right, and_both, by_cases, bool_ext}
use Rattle.frame.specs.Frames.{counts_known, end_count}
use Rattle.groups.specs.Groups.{plan_from, counted_parts, colors_of, group_count, largest_group, flatten, color_from}
use Rattle.parts.proofs.Bounds.{counted-length}
use Rattle.plan_questions.specs.Plans.{Tables}
use Rattle.plan_history.specs.Memory.{Answered}
use Rattle.plan_history.specs.History.{answer_of, Stands}
use Rattle.plan_history.proofs.Memory.{same-eq}
use Rattle.plan_history.proofs.Held.{stand_same, stand_new, stand_old, held-new, held_old, held-fresh}
use Rattle.multi_coloring.specs.declared.MultiColoring.{MultiColoring}
use Rattle.constraint_coloring.specs.declared.Update.{Update}
use Rattle.constraint_coloring.specs.Calls.{update_changed, plan_after}
use Rattle.multi_coloring.specs.Counts.{count_read, counts_read}
use Rattle.multi_coloring.specs.Calls.{fresh_multi, multi_holds, multi_roomy, multi_refusal_with, multi_changes_with, MultiUpdated}
use Rattle.multi_coloring.proofs.Accepted.{Accepted, accepted}
use Rattle.multi_coloring.proofs.Lookups.{read-known}
use Rattle.multi_history.specs.Memory.{MultiMemory, multi_fresh, multi_changes, multi_remembered, MultiInput, multi_answers}
use Rattle.multi_history.specs.History.{MultiHistory, still, step, multi_memory_after, MultiStanding}
use Rattle.multi_history.proofs.Memory.{all_equal}

pub record Remembers (begun : Bool) (m : MultiMemory) (p : MultiColoring) (t : Tables) (c : List ℕ) : Type 0 where
  pub standing : MultiStanding begun m p t c
  pub known : counts_known m.counts ≡ true
  pub whole : end_count m.counts ≡ length m.ends

-- ---- the test for equal input

module _ (flags ends counts : List ℕ) (m : MultiMemory) (t : Tables) (c : List ℕ) (hf : Stands m.flags t.dynamic_bodies) (he : Stands m.ends t.endpoints) (hc : Stands m.counts c) (known : counts_known m.counts ≡ true) (whole : end_count counts ≡ length ends) (whole_m : end_count m.counts ≡ length m.ends) where
  abbrev bodies : Bool
  bodies = eqb (length flags) (length m.flags)

  abbrev many : Bool
  many = eqb (length counts) (length (counted_parts m.counts m.ends))

  abbrev first : Bool
  first = same flags (take (length flags) t.dynamic_bodies)

  abbrev second : Bool
  second = same counts (counts_read (length counts) c)

  abbrev third : Bool
  third = same ends (take (length ends) t.endpoints)

  -- counts as many as the remembered ones are compared with these
  read-same : length counts ≡ length m.counts → second ≡ same counts m.counts
  read-same l = ap (λ (k : ℕ). same counts (map count_read (take k c))) l ∙ ap (λ (xs : List ℕ). same counts (map count_read xs)) hc ∙ ap (same counts) (read-known m.counts known)

  tested : (bodies && many && first && second && third) ≡ true → (same flags m.flags && same counts m.counts && same ends m.ends) ≡ true
  tested h =
      let four = and_left (bodies && many && first && second) third h in
      let three = and_left (bodies && many && first) second four in
      let two = and_left (bodies && many) first three in
      let b = eqb-true (length flags) (length m.flags) (and_left bodies many two) in
      let n = eqb-true (length counts) (length (counted_parts m.counts m.ends)) (and_right bodies many two) ∙ counted-length m.counts m.ends in
      let x = sym (stand_same flags m.flags t.dynamic_bodies hf b) ∙ and_right (bodies && many) first three in
      let y = sym (read-same n) ∙ and_right (bodies && many && first) second four in
      let l : length ends ≡ length m.ends = sym whole ∙ ap end_count (same-eq counts m.counts y) ∙ whole_m in
      let z = sym (stand_same ends m.ends t.endpoints he l) ∙ and_right (bodies && many && first && second) third h in
      and_both (same flags m.flags && same counts m.counts) (same ends m.ends) (and_both (same flags m.flags) (same counts m.counts) x y) z

  equal : (same flags m.flags && same counts m.counts && same ends m.ends) ≡ true → (bodies && many && first && second && third) ≡ true
  equal h =
      let two = and_left (same flags m.flags && same counts m.counts) (same ends m.ends) h in
      let x = and_left (same flags m.flags) (same counts m.counts) two in
      let y = and_right (same flags m.flags) (same counts m.counts) two in
      let z = and_right (same flags m.flags && same counts m.counts) (same ends m.ends) h in
      let w = all_equal flags ends counts m h in
      let b = ap length w.flags_are in
      let n = ap length w.counts_are in
      let l = ap length w.ends_are in
      and_both (bodies && many && first && second) third
      (and_both (bodies && many && first) second
      (and_both (bodies && many) first
      (and_both bodies many (eq-eqb (length flags) (length m.flags) b) (eq-eqb (length counts) (length (counted_parts m.counts m.ends)) (n ∙ sym (counted-length m.counts m.ends))))
      (stand_same flags m.flags t.dynamic_bodies hf b ∙ x))
      (read-same n ∙ y))
      (stand_same ends m.ends t.endpoints he l ∙ z)

  test_is : (bodies && many && first && second && third) ≡ (same flags m.flags && same counts m.counts && same ends m.ends)
  test_is = bool_ext (bodies && many && first && second && third) (same flags m.flags && same counts m.counts && same ends m.ends) tested equal

-- ---- one update

module _ (begun : Bool) (m : MultiMemory) (p : MultiColoring) (t u : Tables) (c d : List ℕ) (flags ends counts : List ℕ) (r : Update MultiColoring) (h : Remembers begun m p t c) (w : MultiUpdated p flags ends counts t c u d r) where
  abbrev room : Bool
  room = multi_roomy t c flags ends counts

  abbrev refusal : ℕ
  refusal = multi_refusal_with t c flags ends counts

  abbrev ch : Bool
  ch = multi_changes_with p t c flags ends counts

  -- with equal counts and lists where they stand, the test is the definition's
  holds_is : end_count counts ≡ length ends → multi_holds p t c flags ends counts ≡ (same flags m.flags && same counts m.counts && same ends m.ends)
  unfolding multi_holds plan_from
  holds_is whole =
      let s = h.standing in
      ap (λ (q : MultiColoring). eqb (length flags) q.plan.body_count && eqb (length counts) q.plan.constraint_count && same flags (take (length flags) t.dynamic_bodies) && same counts (counts_read (length counts) c) && same ends (take (length ends) t.endpoints)) s.plan
      ∙ test_is flags ends counts m t c s.tables.dynamic_bodies s.tables.endpoints s.counts h.known whole h.whole

  changes_is : ch ≡ multi_changes m flags ends counts room
  unfolding multi_changes_with multi_refusal_with multi_changes
  changes_is = by_cases (eqb refusal 0)
      (λ e. ap (λ (b : Bool). eqb refusal 0 && not b) (holds_is (accepted flags ends counts t c (eqb-true refusal 0 e)).whole))
      (λ e. rw e)

  answer_is : answer_of r ≡ record { refusal = refusal; changed = multi_changes m flags ends counts room }
  answer_is = ap₂ (λ (n : ℕ) (b : Bool). record { refusal = n; changed = b }) w.refusal (w.changed ∙ changes_is)

  changed_accepted : ch ≡ true → Accepted flags ends counts t c
  unfolding multi_changes_with
  changed_accepted y = accepted flags ends counts t c (eqb-true refusal 0 (and_left (eqb refusal 0) (not (multi_holds p t c flags ends counts)) y))

  after-new : ch ≡ true → Remembers true (record { flags = flags; ends = ends; counts = counts }) (plan_after p r) u d
  after-new y =
      let o = changed_accepted y in
      record {
        standing = record { plan = w.plan ∙ rw y; tables = held-new ch w.tables y; counts = stand_new ch counts c d w.counts_are y };
        known = o.known;
        whole = o.whole;
      }

  after_old : ch ≡ false → Remembers begun m (plan_after p r) u d
  after_old n =
      let s = h.standing in
      record {
        standing = record { plan = w.plan ∙ rw n s.plan; tables = held_old ch w.tables begun m.flags m.ends _ n s.tables; counts = stand_old ch m.counts counts c d w.counts_are n s.counts };
        known = h.known;
        whole = h.whole;
      }

  after : Remembers (begun || update_changed r) (multi_remembered m flags ends counts room) (plan_after p r) u d
  unfolding multi_remembered
  after = by_cases ch
      (λ y.
      let b : (begun || update_changed r) ≡ true = ap (λ (x : Bool). begun || x) (w.changed ∙ y) ∙ or-true begun in
      let e : multi_changes m flags ends counts room ≡ true = sym changes_is ∙ y in
      rw (b, e) (after-new y))
      (λ n.
      let b : (begun || update_changed r) ≡ begun = ap (λ (x : Bool). begun || x) (w.changed ∙ n) ∙ or-false begun in
      let e : multi_changes m flags ends counts room ≡ false = sym changes_is ∙ n in
      rw (b, e) (after_old n))

-- ---- any list of updates

abbrev any_changed : List Answered → Bool
any_changed outs = any (λ a. a.changed) outs

history_from : {p q : MultiColoring} {t v : Tables} {c e : List ℕ} {ins : List MultiInput} {outs : List Answered} (begun : Bool) (m : MultiMemory) → Remembers begun m p t c → MultiHistory p t c ins outs q v e
    → (outs ≡ multi_answers m ins) × Remembers (begun || any_changed outs) (multi_memory_after m ins) q v e
unfolding multi_answers multi_refusal_with
history_from begun m h still = (refl, rw or-false h)
history_from {p} {q} {t} {v} {c} {e} begun m h (step {u = u} {d = d} {ins = ins} {outs = outs} flags ends counts r w rest) =
    let rest_is = history_from (begun || update_changed r) (multi_remembered m flags ends counts (multi_roomy t c flags ends counts)) (after begun m p t u c d flags ends counts r h w) rest in
    (ap₂ (λ (a : Answered) (as' : List Answered). a ∷ as') (answer_is begun m p t u c d flags ends counts r h w) rest_is.0, rw or_assoc at rest_is.1)

fresh_remembers : (t : Tables) (c : List ℕ) → Remembers false multi_fresh fresh_multi t c
unfolding plan_from colors_of group_count largest_group flatten color_from
fresh_remembers t c = record { standing = record { plan = refl; tables = held-fresh t; counts = refl }; known = refl; whole = refl }

-- the memory theorem: after any list of updates from a fresh plan the answers are the definition's, and plan, tables and counts hold what is remembered
pub multi_memory : {q : MultiColoring} {t v : Tables} {c e : List ℕ} {ins : List MultiInput} {outs : List Answered} → MultiHistory fresh_multi t c ins outs q v e
    → (outs ≡ multi_answers multi_fresh ins) × MultiStanding (any (λ a. a.changed) outs) (multi_memory_after multi_fresh ins) q v e
multi_memory {t = t} {c = c} h =
    let w = history_from false multi_fresh (fresh_remembers t c) h in
    (w.0, w.1.standing)
