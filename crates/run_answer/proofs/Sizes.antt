-- The sizes of a file that was read, and the answer of one that was not.
use Rattle.std.proofs.Common.{ℕ, ◌≤◌, ◌≡◌, refl, ap, ◌∙◌, Bool, cond, List, Result, Ok, Err, arith, eqb, eqb-true, ne_eqb, sym}
use Rattle.std.specs.Result.{result_unwrap_or}
use Rattle.lists.proofs.Laws.{by_cases}
use Rattle.frame.specs.Questions.{asked}
use Rattle.frame.specs.Files.{second, count_b, count_m, count_j, file_questions}
use Rattle.frame.specs.declared.Frame.{Frame}
use Rattle.frame.specs.declared.refusal.Refusal.{Refusal}
use Rattle.frame.specs.Answers.{sizes_of, no_sizes, read_sizes, Read}
use Rattle.frame.specs.Refusals.{number_of, refused_by}
use Rattle.frame.proofs.Answered.{numbered}
use Rattle.frame.proofs.Files.{file_sized, counts_by_version}
use Rattle.run_answer.specs.Lent.{with_counts}

-- a refusal of reading stands before question 6
pub refusal_read : (r : Refusal) (n : ℕ) → cond (eqb (number_of r) 0) n (number_of r) ≡ number_of r
refusal_read r n = rw (ne_eqb (number_of r) 0 (numbered r))

sizes_or_none : (r : Result Frame Refusal) → result_unwrap_or r no_sizes ≡ read_sizes r
sizes_or_none (Ok f) = refl
sizes_or_none (Err e) = refl

module _ (bs : List ℕ) (r : Result Frame Refusal) (h : Read bs r) (f : Frame) (u : f ≡ result_unwrap_or r no_sizes) where
  pub sizes_read : f ≡ cond (eqb (asked (file_questions bs)) 0) (sizes_of bs) no_sizes
  sizes_read = u ∙ sizes_or_none r ∙ h.sizes

  sizes_passed : asked (file_questions bs) ≡ 0 → f ≡ sizes_of bs
  sizes_passed z = rw z at sizes_read

  -- no size is above 4,096, read or refused
  pub few_constraints : (f.manifolds ≤ 4096) × (f.joints ≤ 4096)
  few_constraints = rw sizes_read (by_cases (eqb (asked (file_questions bs)) 0)
      (λ t.
      let s = file_sized bs (eqb-true _ 0 t) in
      rw t (s.manifolds, s.joints))
      (λ t. rw t (omega arith, omega arith)))

  module _ (room : Bool → ℕ → ℕ → ℕ → Bool) where
    -- the version of a file that was read says whether its constraints have counts
    room_known : asked (file_questions bs) ≡ 0 → room (with_counts f.version) f.bodies f.manifolds f.joints ≡ room (second bs) (count_b bs) (count_m bs) (count_j bs)
    room_known z = rw (sizes_passed z) (ap (λ (v : Bool). room v (count_b bs) (count_m bs) (count_j bs)) (counts_by_version (second bs)))

    pub refusal_known : (q : Bool) (n : ℕ) → q ≡ room (with_counts f.version) f.bodies f.manifolds f.joints → n ≡ cond (eqb (refused_by r) 0) (cond q 0 6) (refused_by r)
        → n ≡ cond (eqb (asked (file_questions bs)) 0) (cond (room (second bs) (count_b bs) (count_m bs) (count_j bs)) 0 6) (asked (file_questions bs))
    refusal_known q n eq en = (rw h.refusal at en) ∙ by_cases (eqb (asked (file_questions bs)) 0)
        (λ t. rw t (ap (λ (b : Bool). cond b 0 6) (eq ∙ room_known (eqb-true _ 0 t))))
        (λ t. rw t)

-- what a file that was read says of itself: its sizes
module _ (bs : List ℕ) (f : Frame) (h : Read bs (Ok f)) where
  pub sizes_known : f ≡ sizes_of bs
  sizes_known = rw (sym h.refusal) at h.sizes

  -- its version says whether its constraints have counts
  pub version_known : with_counts f.version ≡ second bs
  version_known = rw sizes_known (counts_by_version (second bs))
