-- The pieces in which a print is made, each in a buffer of 65,536 bytes, and what a program writes that asks for them one after another.
use Rattle.std.specs.Prelude.{ℕ, ◌+◌, ◌*◌, ◌<◌, ◌≡◌, true, List, [], ◌++◌, length, take, Result, Ok, Err}
use Rattle.lists.specs.Basics.{over}
use Rattle.frame.specs.Files.{second}
use Rattle.schedules.specs.Print.{head_of, refusal_line, first_line, answer_to, print_of}
use Rattle.frame.specs.declared.refusal.Refusal.{Refusal}
use Rattle.frame.specs.Refusals.{number_of}
use Rattle.run_answer.specs.declared.Report.{Report}
use Rattle.run_answer.specs.Answers.{run_report}
use Rattle.printing.specs.Turns.{Standing, gathered, turns_from, lines_of}
use Rattle.print_pieces.specs.declared.Piece.{Piece}

-- which line comes first for an answer
abbrev pub answer_line : Result Report Refusal → List ℕ
answer_line (Ok r) = head_of r.islands r.turns r.takes r.degree
answer_line (Err n) = refusal_line (number_of n)

-- the answer to the input bs, and the turn table at entry and at exit
pub record InputAnswered (bs ts ts' : List ℕ) (r : Result Report Refusal) : Type 0 where
  pub line : answer_line r ≡ first_line (answer_to bs)
  pub turns : (run_report r).turns ≡ (answer_to bs).turns
  pub table : ts' ≡ over (answer_to bs).table ts

-- ---- a piece

-- its text: an opening, and behind it the lines of as many of these turns as the buffer has room for
abbrev pub buffer_size : ℕ
buffer_size = 65536

unfoldable pub piece_text : List ℕ → List ℕ → List ℕ → List ℕ
piece_text bs opening turns = opening ++ lines_of bs turns (gathered bs buffer_size (length opening) turns)

-- it stands in the buffer, which was `old`, from place 0 on; its size; and the first turn that is left, where `first` was the first
pub record PieceStands (bs opening turns : List ℕ) (first : ℕ) (old new : List ℕ) (p : Piece) : Type 0 where
  pub text : new ≡ over (piece_text bs opening turns) old
  pub long : length new ≡ length old
  pub size : p.size ≡ length (piece_text bs opening turns)
  pub next : p.next ≡ first + gathered bs buffer_size (length opening) turns

-- the turns that are left after a piece: of the run's turns those from `next` on
abbrev pub turns_left : List ℕ → Piece → List ℕ
turns_left table p = turns_from (take (3 * p.turns) table) p.next

-- where a piece's run has turns and the file is of version 2, the places of its joints are at hand
abbrev pub PiecePlaced : List ℕ → Piece → List ℕ → Type 0
PiecePlaced bs p ps = 0 < p.turns → second bs ≡ true → Standing bs ps

-- the first piece opens with the first line, and the turn table holds the run's turns
pub record FirstPiece (bs ts old ts' new : List ℕ) (p : Piece) : Type 0 where
  pub table : ts' ≡ over (answer_to bs).table ts
  pub turns : p.turns ≡ (answer_to bs).turns
  pub stands : PieceStands bs (first_line (answer_to bs)) (answer_to bs).table 0 old new p

-- the next piece goes on with the turns that the piece p left
pub record NextPiece (bs table old : List ℕ) (p : Piece) (new : List ℕ) (q : Piece) : Type 0 where
  pub turns : q.turns ≡ p.turns
  pub stands : PieceStands bs [] (turns_left table p) p.next old new q

-- ---- all pieces

-- what is written from the piece p on: each piece out of the buffer, then the next one, until one is empty
pub data Written (bs table : List ℕ) : List ℕ → Piece → List ℕ → Type 0 where
  done : {buffer : List ℕ} {p : Piece} → p.size ≡ 0 → Written bs table buffer p []
  more : {buffer new : List ℕ} {p q : Piece} {rest : List ℕ} → (p.size ≡ 0 → ⊥) → NextPiece bs table buffer p new q → Written bs table new q rest → Written bs table buffer p (take p.size buffer ++ rest)

-- from the first piece to the last it is the whole print
abbrev pub WholePrint : Type 0
WholePrint = (bs ts old table buffer : List ℕ) (p : Piece) (text : List ℕ) → FirstPiece bs ts old table buffer p → Written bs table buffer p text → text ≡ print_of bs
