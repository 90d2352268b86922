-- What the questions of a file's joints answer: the walk over the entries of version 2, and the joints of either version.
use Rattle.std.specs.Prelude.{ℕ, ◌+◌, ◌*◌, ◌≡◌, true, cond, List, eqb, length, Result, IfOk}
use Rattle.frame.specs.declared.JointBytes.{JointBytes}
use Rattle.frame.specs.declared.refusal.Refusal.{Refusal}
use Rattle.frame.specs.Refusals.{refused_by}
use Rattle.frame.specs.Questions.{asked}
use Rattle.frame.specs.Frames.{end_count}
use Rattle.frame.specs.Files.{word, count_b, count_m, count_j, joints_at, second, entries_refusal, counts_from, ends_from, live_from, walk_refusal, joint_ends_in, head_questions, file_questions}

-- the walk over n entries from place s on: its refusal or 0, and how many endpoints they have
pub record Walks (bs : List ℕ) (s n : ℕ) (w : Result ℕ Refusal) : Type 0 where
  pub refusal : refused_by w ≡ entries_refusal bs s n
  pub ends : IfOk w (λ ends. ends ≡ length (ends_from bs s n))

-- the refusal of the joints ahead of question 5 of types and enabled bytes: the walk's, or that of version 1's length
abbrev pub joints_refusal : List ℕ → ℕ
joints_refusal bs = cond (second bs) (walk_refusal bs) (cond (eqb (word bs 1) (6 + count_b bs + 4 * count_m bs + 5 * count_j bs)) 0 4)

-- a walk over a file's joints: that refusal, and how many endpoints they have
pub record JointsRead (bs : List ℕ) (w : Result ℕ Refusal) : Type 0 where
  pub refusal : refused_by w ≡ joints_refusal bs
  pub ends : IfOk w (λ ends. ends ≡ length (joint_ends_in bs))

-- the joints' part of a file that passed questions 1 to 3
pub record Placed (p : JointBytes) : Type 0 where
  pub head : asked (head_questions p.bytes.now) ≡ 0
  pub place : p.from ≡ joints_at p.bytes.now
  pub joints : p.joints ≡ count_j p.bytes.now

-- and of one that passed its joints' refusal, too
pub record Passed (p : JointBytes) : Type 0 where
  pub placed : Placed p
  pub walked : joints_refusal p.bytes.now ≡ 0

-- n entries that the walk passes, and tables of their sizes
pub record Walkable (bs : List ℕ) (s : ℕ) (ps cs es : List ℕ) : Type 0 where
  pub walked : entries_refusal bs s (length es) ≡ 0
  pub ends : length ps ≡ end_count (counts_from bs s (length es))
  pub counts : length cs ≡ length es

-- their endpoints, counts and enabled bytes
pub record Entered (bs : List ℕ) (s n : ℕ) (ps cs es : List ℕ) : Type 0 where
  pub ends : ps ≡ ends_from bs s n
  pub counts : cs ≡ counts_from bs s n
  pub enabled : es ≡ live_from bs s n

-- an accepted version 2 file, and a table of as many places as it has joints
pub record Placeable (bs ps : List ℕ) : Type 0 where
  pub file : asked (file_questions bs) ≡ 0
  pub version : second bs ≡ true
  pub places : length ps ≡ count_j bs
