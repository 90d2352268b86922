-- The answers of an update meet its contract: where it does not answer "changed" every table is as it was, and where it does the
-- rebuilt tables and the counts are those of the contract.
use Rattle.std.proofs.Common.{ℕ, ◌≡◌, refl, sym, ap, ◌∙◌, Bool, true, false, not, List, eqb, ne_eqb}
use Rattle.lists.specs.Basics.{over}
use Rattle.frame.specs.declared.refusal.Refusal.{Refusal}
use Rattle.frame.specs.Refusals.{number_of}
use Rattle.groups.specs.Groups.{Plan, with_counts, multi_plan_of}
use Rattle.plan_questions.specs.Plans.{Tables}
use Rattle.constraint_coloring.specs.Stages.{Rebuilt}
use Rattle.constraint_coloring.specs.declared.ConstraintColoring.{ConstraintColoring}
use Rattle.frame.proofs.Answered.{numbered}
use Rattle.constraint_coloring.proofs.Updates.{written-not, written_new, leaves_kept}
use Rattle.constraint_coloring.specs.Calls.{update_number, update_refused, update_changed, plan_after}
use Rattle.constraint_coloring.specs.declared.Update.{Update}
use Rattle.constraint_coloring.specs.declared.Update.TheVariants.{Changed, Unchanged, Refused}
use Rattle.multi_coloring.specs.Calls.{multi_holds, multi_refusal_with, multi_changes_with, MultiUpdated}
use Rattle.multi_coloring.specs.declared.MultiColoring.{MultiColoring}

-- counts are no part of what is built
pub built_counts : (counts : List ℕ) {flags ends : List ℕ} {d : Plan} {t u : Tables} {r : ConstraintColoring} → Rebuilt flags ends d t u r → Rebuilt flags ends (with_counts counts d) t u r
built_counts counts w =
    record {
      plan = w.plan;
      tables = record {
        dynamic_bodies = w.tables.dynamic_bodies;
        endpoints = w.tables.endpoints;
        body_offsets = w.tables.body_offsets;
        body_constraints = w.tables.body_constraints;
        scratch_offsets = w.tables.scratch_offsets;
        constraint_colors = w.tables.constraint_colors;
        color_stamps = w.tables.color_stamps;
        body_stamps = w.tables.body_stamps;
        color_offsets = w.tables.color_offsets;
        colored_constraints = w.tables.colored_constraints;
        color_body_offsets = w.tables.color_body_offsets;
        color_bodies = w.tables.color_bodies;
        constraint_body_positions = w.tables.constraint_body_positions;
      };
    }

module _ (p : MultiColoring) (flags ends counts : List ℕ) (t : Tables) (c : List ℕ) where
  abbrev refusal : ℕ
  refusal = multi_refusal_with t c flags ends counts

  abbrev changes : Bool
  changes = multi_changes_with p t c flags ends counts

  -- an answer that is not "changed" leaves the plan and all tables
  kept_all : (r : Update MultiColoring) → changes ≡ false → update_number r ≡ refusal → update_refused r ≡ not (eqb refusal 0) → update_changed r ≡ false → plan_after p r ≡ p → MultiUpdated p flags ends counts t c t c r
  kept_all r e n s b q = record {
    refusal = n;
    refused = s;
    changed = b ∙ sym e;
    plan = rw e q;
    tables = leaves_kept changes flags ends (multi_plan_of flags ends counts) t e;
    counts_are = written-not changes counts c e;
  }

  pub refused : (r : Refusal) → number_of r ≡ refusal → MultiUpdated p flags ends counts t c t c (Refused r)
  unfolding multi_changes_with
  refused r e =
      let ne = ne_eqb (number_of r) 0 (numbered r) in
      kept_all (Refused r) (rw (sym e, ne)) e (rw (sym e, ne)) refl refl

  pub unchanged : refusal ≡ 0 → multi_holds p t c flags ends counts ≡ true → MultiUpdated p flags ends counts t c t c Unchanged
  unfolding multi_changes_with
  unchanged e h = kept_all Unchanged (rw (e, h)) (sym e) (rw e) refl refl

  pub changed : (u : Tables) (c' : List ℕ) (q : ConstraintColoring) → refusal ≡ 0 → multi_holds p t c flags ends counts ≡ false → Rebuilt flags ends (multi_plan_of flags ends counts) t u q → c' ≡ over counts c
      → MultiUpdated p flags ends counts t c u c' (Changed (record { plan = q }))
  unfolding multi_changes_with
  changed u c' q e h w v =
      let y : changes ≡ true = rw (e, h) in
      record {
        refusal = sym e;
        refused = rw e;
        changed = sym y;
        plan = rw y (ap (λ (c : ConstraintColoring). record { plan = c }) w.plan);
        tables = rw y w.tables;
        counts_are = rw y (written_new counts c c' v);
      }
