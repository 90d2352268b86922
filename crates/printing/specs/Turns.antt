-- The lines of a turn table, gathered in a lent buffer as far as there is room.
use Rattle.std.specs.Prelude.{ℕ, suc, ◌+◌, ◌*◌, ◌≤◌, ◌<◌, ◌≡◌, Bool, true, ◌&&◌, cond, List, [], ◌∷◌, leb, ltb, length, take, drop}
use Rattle.frame.specs.Frames.{constraint_at}
use Rattle.frame.specs.Questions.{asked}
use Rattle.frame.specs.Files.{count_m, count_j, joints_at, second, places_from, halves_from, decode, file_questions}
use Rattle.schedules.specs.Print.{turn_line, turn_lines}
use Rattle.print_fields.specs.Puts.{longest}
use Rattle.writer.specs.declared.Writer.{Writer}
use Rattle.writer.specs.Wrote.{Wrote}

-- ---- where a constraint's endpoints stand

-- an accepted file, and a table that begins with the places of its joints' entries
pub record Standing (bs ps : List ℕ) : Type 0 where
  pub file : asked (file_questions bs) ≡ 0
  pub places : take (count_j bs) ps ≡ places_from bs (joints_at bs) (count_j bs)

-- such a table is at hand where there are turns of a version 2 file
abbrev pub Placed : List ℕ → List ℕ → List ℕ → Type 0
Placed bs turns ps = 0 < length turns → second bs ≡ true → Standing bs ps

-- the endpoints of constraint n stand from place s on, c of them, two to four
pub record EndsStand (bs : List ℕ) (n s c : ℕ) : Type 0 where
  pub ends : halves_from bs s c ≡ (constraint_at (decode bs) n).ends
  pub least : 2 ≤ c
  pub most : c ≤ 4

-- ---- the lines

-- the line of a turn
unfoldable pub line_of : List ℕ → ℕ → ℕ → ℕ → List ℕ
line_of bs i k n = turn_line i k n (constraint_at (decode bs) n).ends

-- no line of a turn of c bodies is longer: of two as `longest` says; of three or four it has at most seven numbers of 20 digits, each with its end
abbrev pub longest_turn : ℕ → ℕ
longest_turn c = cond (leb c 2) longest 147

-- of a turn of constraint n
abbrev pub longest_of : List ℕ → ℕ → ℕ
longest_of bs n = longest_turn (length (constraint_at (decode bs) n).ends)

-- is there a constraint n, and room for its line from place `at` on in a buffer of this size?
unfoldable pub ready : List ℕ → ℕ → ℕ → ℕ → Bool
ready bs size at n = ltb n (count_m bs + count_j bs) && leb (at + longest_of bs n) size

-- the line of a turn that is ready; else nothing
unfoldable pub if_ready : List ℕ → ℕ → ℕ → ℕ → ℕ → ℕ → List ℕ
if_ready bs size at i k n = cond (ready bs size at n) (line_of bs i k n) []

-- how many turns of a turn table are gathered from place `at` on: the first ones, until one is not ready
unfoldable pub gathered : List ℕ → ℕ → ℕ → List ℕ → ℕ
gathered bs size at [] = 0
gathered bs size at (i ∷ []) = 0
gathered bs size at (i ∷ k ∷ []) = 0
gathered bs size at (i ∷ k ∷ n ∷ r) = cond (ready bs size at n) (suc (gathered bs size (at + length (line_of bs i k n)) r)) 0

-- the turns from number t on
abbrev pub turns_from : List ℕ → ℕ → List ℕ
turns_from turns t = drop (3 * t) turns

-- the lines of the first d turns of a turn table
unfoldable pub lines_of : List ℕ → List ℕ → ℕ → List ℕ
lines_of bs turns d = turn_lines (decode bs) (take (3 * d) turns)

-- written from turn `first` on: the lines of as many turns as are ready; r is the first turn that is left
pub record Lines (bs turns : List ℕ) (first : ℕ) (old new : Writer) (r : ℕ) : Type 0 where
  pub wrote : Wrote (lines_of bs (turns_from turns first) (gathered bs (length old.out.now) old.at (turns_from turns first))) old new
  pub turn : r ≡ first + gathered bs (length old.out.now) old.at (turns_from turns first)
