-- Question 6 asks for the tables' lengths alone, and fewer constraints and endpoints need less.
use Rattle.std.proofs.Common.{ℕ, ap, ◌∙◌, ◌≤◌, ◌≡◌, true, arith, length}
use Rattle.plan_questions.specs.Plans.{Tables, roomy_with}
use Rattle.plan_questions.specs.Lent.{PlanLengths, lengths_of, SameTables}
use Rattle.plan_questions.specs.declared.PlanTables.{PlanTables}
use Rattle.plan_questions.proofs.Rooms.{fitted_with, with_fitted}

-- the tables of a plan keep their lengths
pub record SameLengths (t u : Tables) : Type 0 where
  pub dynamic_bodies : length u.dynamic_bodies ≡ length t.dynamic_bodies
  pub endpoints : length u.endpoints ≡ length t.endpoints
  pub body_offsets : length u.body_offsets ≡ length t.body_offsets
  pub body_constraints : length u.body_constraints ≡ length t.body_constraints
  pub scratch_offsets : length u.scratch_offsets ≡ length t.scratch_offsets
  pub constraint_colors : length u.constraint_colors ≡ length t.constraint_colors
  pub color_stamps : length u.color_stamps ≡ length t.color_stamps
  pub body_stamps : length u.body_stamps ≡ length t.body_stamps
  pub color_offsets : length u.color_offsets ≡ length t.color_offsets
  pub colored_constraints : length u.colored_constraints ≡ length t.colored_constraints
  pub color_body_offsets : length u.color_body_offsets ≡ length t.color_body_offsets
  pub color_bodies : length u.color_bodies ≡ length t.color_bodies
  pub constraint_body_positions : length u.constraint_body_positions ≡ length t.constraint_body_positions

pub lengths_same : {t u : Tables} → lengths_of u ≡ lengths_of t → SameLengths t u
lengths_same {t} {u} e =
    let at : (of : PlanLengths → ℕ) → of (lengths_of u) ≡ of (lengths_of t) = λ (of : PlanLengths → ℕ). ap of e in
    record {
      dynamic_bodies = at (λ l. l.dynamic_bodies);
      endpoints = at (λ l. l.endpoints);
      body_offsets = at (λ l. l.body_offsets);
      body_constraints = at (λ l. l.body_constraints);
      scratch_offsets = at (λ l. l.scratch_offsets);
      constraint_colors = at (λ l. l.constraint_colors);
      color_stamps = at (λ l. l.color_stamps);
      body_stamps = at (λ l. l.body_stamps);
      color_offsets = at (λ l. l.color_offsets);
      colored_constraints = at (λ l. l.colored_constraints);
      color_body_offsets = at (λ l. l.color_body_offsets);
      color_bodies = at (λ l. l.color_bodies);
      constraint_body_positions = at (λ l. l.constraint_body_positions);
    }

pub room_kept : (b c d e f : ℕ) (t u : Tables) → d ≤ c → f ≤ e → SameLengths t u → roomy_with b c e t ≡ true → roomy_with b d f u ≡ true
room_kept b c d e f t u l m s h =
    let w = fitted_with b c e t h in
    with_fitted b d f u (
      omega (arith, w.0, s.dynamic_bodies),
      (
        omega (arith, w.1.0, s.endpoints),
        (
          omega (arith, w.1.1.0, s.body_offsets),
          (
            omega (arith, w.1.1.1.0, s.body_constraints),
            (
              omega (arith, w.1.1.1.1.0, s.scratch_offsets),
              (
                omega (arith, w.1.1.1.1.1.0, s.scratch_offsets),
                (
                  omega (arith, w.1.1.1.1.1.1.0, s.constraint_colors),
                  (
                    omega (arith, w.1.1.1.1.1.1.1.0, s.color_stamps),
                    (
                      omega (arith, w.1.1.1.1.1.1.1.1.0, s.body_stamps),
                      (
                        omega (arith, w.1.1.1.1.1.1.1.1.1.0, s.color_offsets),
                        (
                          omega (arith, w.1.1.1.1.1.1.1.1.1.1.0, s.colored_constraints),
                          (
                            omega (arith, w.1.1.1.1.1.1.1.1.1.1.1.0, s.color_body_offsets),
                            (
                              omega (arith, w.1.1.1.1.1.1.1.1.1.1.1.1.0, s.color_bodies),
                              (omega (arith, w.1.1.1.1.1.1.1.1.1.1.1.1.1.0, s.constraint_body_positions), tt),
                            ),
                          ),
                        ),
                      ),
                    ),
                  ),
                ),
              ),
            ),
          ),
        ),
      ),
    )

-- tables that are the same after two steps are so after both
pub same_twice : {a b c : PlanTables} → SameTables a b → SameTables b c → SameTables a c
same_twice h k = record {
  dynamic_bodies = k.dynamic_bodies ∙ h.dynamic_bodies;
  endpoints = k.endpoints ∙ h.endpoints;
  body_offsets = k.body_offsets ∙ h.body_offsets;
  body_constraints = k.body_constraints ∙ h.body_constraints;
  scratch_offsets = k.scratch_offsets ∙ h.scratch_offsets;
  constraint_colors = k.constraint_colors ∙ h.constraint_colors;
  color_stamps = k.color_stamps ∙ h.color_stamps;
  body_stamps = k.body_stamps ∙ h.body_stamps;
  color_offsets = k.color_offsets ∙ h.color_offsets;
  colored_constraints = k.colored_constraints ∙ h.colored_constraints;
  color_body_offsets = k.color_body_offsets ∙ h.color_body_offsets;
  color_bodies = k.color_bodies ∙ h.color_bodies;
  constraint_body_positions = k.constraint_body_positions ∙ h.constraint_body_positions;
}
