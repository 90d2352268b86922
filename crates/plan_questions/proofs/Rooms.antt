-- Question 6 as a row of comparisons: there is room exactly if each of them holds.
use Rattle.std.proofs.Common.{ℕ, ◌+◌, ◌*◌, ◌≤◌, ◌≡◌, refl, Bool, true, ◌&&◌, List, [], ◌∷◌, leb, length, leb-true, le-leb}
use Rattle.lists.proofs.Laws.{and_left, and_right, and_both}
use Rattle.plan_questions.specs.Plans.{Tables, roomy, roomy_with}

-- a row of comparisons that all hold, and each of them
abbrev pub fitted : Bool → List (ℕ × ℕ) → Bool
fitted b [] = b
fitted b (x ∷ r) = fitted (b && leb x.0 x.1) r

abbrev pub Fitted : List (ℕ × ℕ) → Type 0
Fitted [] = Unit
Fitted (x ∷ r) = (x.0 ≤ x.1) × Fitted r

pub fitted-all : (b : Bool) (l : List (ℕ × ℕ)) → fitted b l ≡ true → (b ≡ true) × Fitted l
fitted-all b [] h = (h, tt)
fitted-all b (x ∷ r) h =
    let w = fitted-all (b && leb x.0 x.1) r h in
    (and_left b (leb x.0 x.1) w.0, (leb-true _ _ (and_right b (leb x.0 x.1) w.0), w.1))

pub all-fitted : (b : Bool) (l : List (ℕ × ℕ)) → b ≡ true → Fitted l → fitted b l ≡ true
all-fitted b [] h w = h
all-fitted b (x ∷ r) h w = all-fitted (b && leb x.0 x.1) r (and_both b (leb x.0 x.1) h (le-leb x.0 x.1 w.0)) w.1

-- the comparisons of question 6, in their order
abbrev pub wanted_with : ℕ → ℕ → ℕ → Tables → List (ℕ × ℕ)
wanted_with b c e t =
    (b, length t.dynamic_bodies) ∷ (e, length t.endpoints) ∷ (b + 1, length t.body_offsets)
    ∷ (e, length t.body_constraints) ∷ (b, length t.scratch_offsets) ∷ (c, length t.scratch_offsets)
    ∷ (c, length t.constraint_colors) ∷ (c, length t.color_stamps) ∷ (b, length t.body_stamps)
    ∷ (c + 1, length t.color_offsets) ∷ (c, length t.colored_constraints) ∷ (c + 1, length t.color_body_offsets)
    ∷ (e, length t.color_bodies) ∷ (e, length t.constraint_body_positions) ∷ []

pub fitted_with : (b c e : ℕ) (t : Tables) → roomy_with b c e t ≡ true → Fitted (wanted_with b c e t)
unfolding roomy_with
fitted_with b c e t h = (fitted-all true (wanted_with b c e t) h).1

pub with_fitted : (b c e : ℕ) (t : Tables) → Fitted (wanted_with b c e t) → roomy_with b c e t ≡ true
unfolding roomy_with
with_fitted b c e t w = all-fitted true (wanted_with b c e t) refl w

-- of pairs
abbrev pub wanted : ℕ → ℕ → Tables → List (ℕ × ℕ)
wanted b c t = wanted_with b c (2 * c) t

pub fitted-roomy : (b c : ℕ) (t : Tables) → roomy b c t ≡ true → Fitted (wanted b c t)
fitted-roomy b c t = fitted_with b c (2 * c) t

pub roomy-fitted : (b c : ℕ) (t : Tables) → Fitted (wanted b c t) → roomy b c t ≡ true
roomy-fitted b c t = with_fitted b c (2 * c) t
