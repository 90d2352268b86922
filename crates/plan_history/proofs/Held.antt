-- What stands in the first places of tables: a list that was written there does, another stays where nothing was written, and one of the same
-- length is compared with it.
use Rattle.std.proofs.Common.{ℕ, ◌≡◌, refl, sym, ap, ◌∙◌, Bool, true, false, List, [], length, take, take_at}
use Rattle.lists.specs.Basics.{over, same}
use Rattle.lists.proofs.Laws.{clashes}
use Rattle.groups.specs.Groups.{Plan, plan_from, colors_of, group_count, largest_group, flatten, color_from}
use Rattle.plan_questions.specs.Plans.{Tables}
use Rattle.constraint_coloring.specs.Calls.{written, Leaves}
use Rattle.constraint_coloring.proofs.Updates.{written-not, written_new}
use Rattle.plan_history.specs.History.{Stands, Held}

-- compared with what stands in a table is compared with that
pub stand_same : (xs s table : List ℕ) → Stands s table → length xs ≡ length s → same xs (take (length xs) table) ≡ same xs s
stand_same xs s table h l = ap (same xs) (ap (λ (k : ℕ). take k table) l ∙ h)

pub stand_new : (ch : Bool) (new old table : List ℕ) → table ≡ written ch new old → ch ≡ true → Stands new table
stand_new ch new old table e y = ap (take (length new)) (e ∙ ap (λ (b : Bool). written b new old) y ∙ sym (written_new new old (over new old) refl)) ∙ take_at new _ (length new) refl

pub stand_old : (ch : Bool) (s new old table : List ℕ) → table ≡ written ch new old → ch ≡ false → Stands s old → Stands s table
stand_old ch s new old table e n h = ap (take (length s)) (e ∙ sym (written-not ch new old n)) ∙ h

module _ (ch : Bool) {flags ends : List ℕ} {d : Plan} {t u : Tables} (w : Leaves ch flags ends d t u) where
  -- after "changed" the tables hold the input and its plan
  pub held-new : ch ≡ true → Held true flags ends d u
  held-new y =
      record {
        dynamic_bodies = stand_new ch flags _ _ w.dynamic_bodies y;
        endpoints = stand_new ch ends _ _ w.endpoints y;
        constraint_colors = stand_new ch d.colors _ _ w.constraint_colors y;
        color_offsets = λ b. stand_new ch d.color_offsets _ _ w.color_offsets y;
        colored_constraints = stand_new ch d.colored_constraints _ _ w.colored_constraints y;
        color_body_offsets = λ b. stand_new ch d.color_body_offsets _ _ w.color_body_offsets y;
        color_bodies = stand_new ch d.color_bodies _ _ w.color_bodies y;
        constraint_body_positions = stand_new ch d.positions _ _ w.constraint_body_positions y;
      }

  -- after any other answer they hold what they held
  pub held_old : (begun : Bool) (fs es : List ℕ) (p : Plan) → ch ≡ false → Held begun fs es p t → Held begun fs es p u
  held_old begun fs es p n h =
      record {
        dynamic_bodies = stand_old ch _ _ _ _ w.dynamic_bodies n h.dynamic_bodies;
        endpoints = stand_old ch _ _ _ _ w.endpoints n h.endpoints;
        constraint_colors = stand_old ch _ _ _ _ w.constraint_colors n h.constraint_colors;
        color_offsets = λ b. stand_old ch _ _ _ _ w.color_offsets n (h.color_offsets b);
        colored_constraints = stand_old ch _ _ _ _ w.colored_constraints n h.colored_constraints;
        color_body_offsets = λ b. stand_old ch _ _ _ _ w.color_body_offsets n (h.color_body_offsets b);
        color_bodies = stand_old ch _ _ _ _ w.color_bodies n h.color_bodies;
        constraint_body_positions = stand_old ch _ _ _ _ w.constraint_body_positions n h.constraint_body_positions;
      }

-- any tables hold empty lists and their plan, but for the offsets
pub held-fresh : (t : Tables) → Held false [] [] (plan_from [] []) t
unfolding plan_from colors_of group_count largest_group flatten color_from
held-fresh t =
    record {
      dynamic_bodies = refl;
      endpoints = refl;
      constraint_colors = refl;
      color_offsets = λ e. clashes false e refl;
      colored_constraints = refl;
      color_body_offsets = λ e. clashes false e refl;
      color_bodies = refl;
      constraint_body_positions = refl;
    }
