-- The answer of reading a file: its values.
use Rattle.std.specs.Prelude.{ℕ, ◌+◌, ◌*◌, ◌≡◌, Bool, true, false, not, ◌||◌, cond, List, eqb, length, Result, Ok, Err, is_err, IfOk}
use Rattle.frame.specs.declared.Frame.{Frame}
use Rattle.frame.specs.declared.Version.{Version}
use Rattle.frame.specs.declared.Version.TheVariants.{First, Second}
use Rattle.frame.specs.declared.refusal.Refusal.{Refusal}
use Rattle.frame.specs.Questions.{asked}
use Rattle.frame.specs.Refusals.{refused_by}
use Rattle.frame.specs.Files.{second, count_b, count_m, count_j, joint_ends_in, file_questions}

-- the version of a file that has one of the two
abbrev pub version_of : List ℕ → Version
version_of bs = cond (second bs) Second First

-- a version by its byte, 1 or 2; of any other byte question 1 is refused
pub record Versioned (byte : ℕ) (r : Result Version Refusal) : Type 0 where
  pub refusal : refused_by r ≡ cond (eqb byte 1 || eqb byte 2) 0 1
  pub version : IfOk r (λ v. v ≡ cond (eqb byte 2) Second First)

-- the version, B, M, J and the number of the joints' endpoints; where it was refused the first version, and all 0
abbrev pub no_sizes : Frame
no_sizes = record { version = First; bodies = 0; manifolds = 0; joints = 0; joint_ends = 0 }

abbrev pub read_sizes : Result Frame Refusal → Frame
read_sizes (Ok f) = f
read_sizes (Err r) = no_sizes

abbrev pub sizes_of : List ℕ → Frame
sizes_of bs = record { version = version_of bs; bodies = count_b bs; manifolds = count_m bs; joints = count_j bs; joint_ends = length (joint_ends_in bs) }

-- the contract of reading a file: questions 1 to 5, and the sizes
pub record Read (bs : List ℕ) (r : Result Frame Refusal) : Type 0 where
  pub refusal : refused_by r ≡ asked (file_questions bs)
  pub refused : is_err r ≡ not (eqb (asked (file_questions bs)) 0)
  pub sizes : read_sizes r ≡ cond (eqb (asked (file_questions bs)) 0) (sizes_of bs) no_sizes

-- ---- what question 6 of a run asks of the frame's sizes

-- the constraints of a frame of version 2 have counts
abbrev pub with_counts : Version → Bool
with_counts First = false
with_counts Second = true

-- question 6 asks for so many endpoint entries: 2 * M + 4 * J where the constraints have counts
abbrev pub entries_for : Bool → ℕ → ℕ → ℕ
entries_for counted m j = cond counted (2 * m + 4 * j) (2 * (m + j))

-- and for so many counts: none where they are pairs
abbrev pub counts_room : Bool → ℕ → ℕ → ℕ
counts_room counted m j = cond counted (m + j) 0
