-- What is known once an update has put its questions: the sizes are within their limits, the counts are two to four and make up the
-- endpoint list, the endpoints are sound, and every lent table is long enough. So a plan can be built by the bounds of these counts.
use Rattle.std.proofs.Common.{ℕ, ◌*◌, ◌≤◌, ◌≡◌, true, ◌&&◌, List, arith, leb, eqb, length, leb-true, eqb-true}
use Rattle.lists.specs.Basics.{all}
use Rattle.lists.proofs.Laws.{and_left, and_right}
use Rattle.frame.specs.Frames.{counts_known, end_count, fits}
use Rattle.frame.specs.Questions.{bits}
use Rattle.frame.proofs.Questions.{passed}
use Rattle.frame.proofs.Counted.{known-many}
use Rattle.groups.specs.Groups.{counted_parts}
use Rattle.parts.specs.Steps.{BoundsOf}
use Rattle.parts.proofs.Bounds.{parts-counted, counted_gapless}
use Rattle.plan_questions.specs.Plans.{Tables, roomy_with}
use Rattle.plan_questions.proofs.Rooms.{Fitted, wanted_with, fitted_with}
use Rattle.constraint_coloring.specs.Stages.{Buildable}
use Rattle.constraint_coloring.proofs.Accepted.{lent}
use Rattle.multi_coloring.specs.Counts.{multi_update_refusal}
use Rattle.multi_coloring.specs.Calls.{multi_roomy, multi_refusal_with}

pub record Accepted (flags ends counts : List ℕ) (t : Tables) (c : List ℕ) : Type 0 where
  pub few_bodies : length flags ≤ 4096
  pub few : length counts ≤ 8192
  pub whole : end_count counts ≡ length ends
  pub known : counts_known counts ≡ true
  pub room : length counts ≤ length c
  pub tables : Fitted (wanted_with (length flags) (length counts) (length ends) t)
  pub sound : all (fits (length flags)) (counted_parts counts ends) ≡ true

pub accepted : (flags ends counts : List ℕ) (t : Tables) (c : List ℕ) → multi_refusal_with t c flags ends counts ≡ 0 → Accepted flags ends counts t c
unfolding multi_refusal_with multi_update_refusal
accepted flags ends counts t c e =
    let q3 = passed (leb (length flags) 4096 && leb (length counts) 8192) _ 2 e in
    let q4 = passed (eqb (end_count counts) (length ends)) _ 3 q3.1 in
    let q5 = passed (bits flags && counts_known counts) _ 4 q4.1 in
    let q6 = passed (multi_roomy t c flags ends counts) _ 5 q5.1 in
    let q7 = passed (all (fits (length flags)) (counted_parts counts ends)) _ 6 q6.1 in
    record {
      few_bodies = leb-true _ _ (and_left (leb (length flags) 4096) (leb (length counts) 8192) q3.0);
      few = leb-true _ _ (and_right (leb (length flags) 4096) (leb (length counts) 8192) q3.0);
      whole = eqb-true (end_count counts) (length ends) q4.0;
      known = and_right (bits flags) (counts_known counts) q5.0;
      room = leb-true _ _ (and_left (leb (length counts) (length c)) (roomy_with (length flags) (length counts) (length ends) t) q6.0);
      tables = fitted_with (length flags) (length counts) (length ends) t (and_right (leb (length counts) (length c)) (roomy_with (length flags) (length counts) (length ends) t) q6.0);
      sound = q7.0;
    }

module _ {flags ends counts : List ℕ} {t : Tables} {c : List ℕ} (o : Accepted flags ends counts t c) where
  -- at least two endpoints a constraint, at most 32,768 in all
  pub two-each : 2 * length counts ≤ length ends
  two-each = omega (arith, (known-many counts o.known).0, o.whole)

  -- there is room for two bounds a constraint
  pub bounds_room : 2 * length counts ≤ length t.body_constraints
  bounds_room = omega (arith, two-each, o.tables.1.1.1.0)

  pub buildable : (bounds : List ℕ) → BoundsOf counts bounds → length bounds ≡ 2 * length counts → Buildable flags ends bounds (length counts) (lent t)
  buildable bounds b l =
      let w = o.tables in
      record {
        few_bodies = o.few_bodies;
        few = o.few;
        gapless = counted_gapless b l ends o.whole;
        sound = rw (parts-counted b l ends) o.sound;
        dynamic_bodies = w.0;
        endpoints = w.1.0;
        scratch_bodies = w.1.1.1.1.0;
        scratch_constraints = w.1.1.1.1.1.0;
        constraint_colors = w.1.1.1.1.1.1.0;
        body_stamps = w.1.1.1.1.1.1.1.1.0;
        color_offsets = w.1.1.1.1.1.1.1.1.1.0;
        colored_constraints = w.1.1.1.1.1.1.1.1.1.1.0;
        color_body_offsets = w.1.1.1.1.1.1.1.1.1.1.1.0;
        color_bodies = w.1.1.1.1.1.1.1.1.1.1.1.1.0;
        constraint_body_positions = w.1.1.1.1.1.1.1.1.1.1.1.1.1.0;
      }
