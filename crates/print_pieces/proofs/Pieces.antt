-- A piece stands in the buffer where its opening was put and the lines behind it.
use Rattle.std.proofs.Common.{ℕ, zero, suc, ◌+◌, ◌-◌, ◌*◌, ◌≤◌, ◌<◌, ◌≡◌, sym, ap, ap₂, ◌∙◌, true, List, [], ◌++◌, Result, arith, ltb, eqb, length, take, drop, length-append, length-drop, drop-drop, take_at, le-leb, lt-ltb, ltb-true, eqb-true}
use Rattle.std.proofs.lemmas.Bool.{eqb-false}
use Rattle.lists.specs.Basics.{one, put}
use Rattle.lists.proofs.Laws.{by_cases}
use Rattle.lists.proofs.Puts.{put_first}
use Rattle.frame.specs.declared.refusal.Refusal.{Refusal}
use Rattle.run_answer.specs.declared.Report.{Report}
use Rattle.run_answer.specs.Answers.{run_report}
use Rattle.frame.specs.Files.{second}
use Rattle.schedules.specs.Print.{turn_lines, answer_to}
use Rattle.print_fields.specs.Puts.{longest, if_left, if_room}
use Rattle.printing.specs.Turns.{Standing, Placed, gathered, turns_from, lines_of, Lines}
use Rattle.writer.specs.declared.Writer.{Writer}
use Rattle.writer.specs.Wrote.{Wrote}
use Rattle.writer.proofs.Writes.{wrote_none, wrote_then}
use Rattle.printing.proofs.Turns.{gathered-few}
use Rattle.print_pieces.specs.declared.Piece.{Piece}
use Rattle.print_pieces.specs.Pieces.{answer_line, InputAnswered, buffer_size, piece_text, PieceStands, turns_left, FirstPiece, NextPiece}
use Rattle.print_pieces.proofs.Answers.{table_long}

-- a line that has room is put
pub put-line : (line text : List ℕ) (old new : Writer) → text ≡ line → old.at + longest ≤ length old.out.now → Wrote (if_room (length old.out.now) old.at text) old new → Wrote line old new
unfolding if_left
put-line line text old new e room p = rw (← e) (rw (le-leb (old.at + longest) (length old.out.now) (omega arith)) at p)

-- there are turns in the used part of a turn table only where the run has turns
pub turns_placed : (bs table ps : List ℕ) (count : ℕ) → (0 < count → second bs ≡ true → Standing bs ps) → Placed bs (take (3 * count) table) ps
turns_placed bs table ps zero h some = absurd (omega arith)
turns_placed bs table ps (suc n) h some = h (omega arith)

module _ (bs opening turns : List ℕ) (first : ℕ) (old mid new : Writer) (p : Piece) (start : old.at ≡ 0) (long : length old.out.now ≡ buffer_size) where
  -- the opening, then the lines
  stands : Wrote opening old mid → Lines bs turns first mid new p.next → p.size ≡ new.at → PieceStands bs opening (turns_from turns first) first old.out.now new.out.now p
  unfolding piece_text
  stands o l size =
      let rest = turns_from turns first in
      let room : length mid.out.now ≡ buffer_size = o.long ∙ long in
      let here : mid.at ≡ length opening = omega (arith, o.next, start) in
      let lines = lines_of bs rest (gathered bs buffer_size (length opening) rest) in
      let held : gathered bs (length mid.out.now) mid.at rest ≡ gathered bs buffer_size (length opening) rest = ap₂ (λ (n i : ℕ). gathered bs n i rest) room here in
      let same : lines_of bs rest (gathered bs (length mid.out.now) mid.at rest) ≡ lines = ap (lines_of bs rest) held in
      let began : mid.at ≤ length mid.out.now = o.within (omega (arith, start)) in
      let ended : new.at ≤ length new.out.now = l.wrote.within began in
      let behind : Wrote lines mid new = rw same at l.wrote in
      let whole = wrote_then o behind (omega (arith, here, start, ended, behind.next, behind.long, o.long)) in
      record {
        text = whole.bytes ∙ ap (λ (i : ℕ). put i (opening ++ lines) old.out.now) start ∙ put_first (opening ++ lines) old.out.now;
        long = whole.long;
        size = size ∙ omega (arith, whole.next, start);
        next = l.turn ∙ ap (λ (n : ℕ). first + n) held;
      }

-- the first piece, and the next one
pub first_stands : (bs ts ts' : List ℕ) (old mid new : Writer) (r : Result Report Refusal) (count : ℕ) (p : Piece) → old.at ≡ 0 → length old.out.now ≡ buffer_size
    → InputAnswered bs ts ts' r → count ≡ (run_report r).turns → Wrote (answer_line r) old mid → (p.size ≡ new.at) × (p.turns ≡ count)
    → Lines bs (take (3 * count) ts') 0 mid new p.next → FirstPiece bs ts old.out.now ts' new.out.now p
first_stands bs ts ts' old mid new r count p start long a c o t l =
    let n : count ≡ (answer_to bs).turns = c ∙ a.turns in
    let used : take (3 * count) ts' ≡ (answer_to bs).table = rw a.table (take_at (answer_to bs).table (drop (length (answer_to bs).table) ts) (3 * count) (table_long bs ∙ omega (arith, n))) in
    record {
      table = a.table;
      turns = t.1 ∙ n;
      stands = rw (used, a.line) at (stands bs (answer_line r) (take (3 * count) ts') 0 old mid new p start long o l t.0);
    }

pub next_stands : (bs table : List ℕ) (old new : Writer) (p q : Piece) → old.at ≡ 0 → length old.out.now ≡ buffer_size → (q.size ≡ new.at) × (q.turns ≡ p.turns)
    → Lines bs (take (3 * p.turns) table) p.next old new q.next → NextPiece bs table old.out.now p new.out.now q
next_stands bs table old new p q start long t l = record {
  turns = t.1;
  stands = stands bs [] (take (3 * p.turns) table) p.next old old new q start long (wrote_none old) l t.0;
}

-- ---- what a piece leaves

-- what is left to do from a piece on: the entries of the turns that it leaves, and one for the piece itself if it has bytes
abbrev pub work : List ℕ → Piece → ℕ
work table p = length (turns_left table p) + one (ltb 0 p.size)

module _ (bs : List ℕ) where
  -- how many turns a piece holds
  abbrev pub held : List ℕ → List ℕ → ℕ
  held opening turns = gathered bs buffer_size (length opening) turns

  module _ {opening turns old new : List ℕ} {first : ℕ} {p : Piece} (s : PieceStands bs opening turns first old new p) where
    pub opening_fits : length opening ≤ p.size
    unfolding piece_text
    opening_fits = omega (arith, s.size, length-append opening (lines_of bs turns (held opening turns)))

    pub piece_fits : p.size ≤ length new
    piece_fits = omega (arith, s.size, ap length s.text, length-append (piece_text bs opening turns) (drop (length (piece_text bs opening turns)) old))

  -- the turns behind it
  pub left_behind : (all table : List ℕ) {opening old new : List ℕ} {first : ℕ} {p : Piece} → take (3 * p.turns) table ≡ all → PieceStands bs opening (turns_from all first) first old new p
      → turns_left table p ≡ turns_from (turns_from all first) (held opening (turns_from all first))
  left_behind all table {opening} {old} {new} {first} {p} e s =
      let d = held opening (turns_from all first) in
      let n : 3 * p.next ≡ 3 * first + 3 * d = omega (arith, s.next) in
      ap (λ (l : List ℕ). drop (3 * p.next) l) e ∙ ap (λ (k : ℕ). drop k all) n ∙ sym (drop-drop (3 * d) (3 * first) all)

  module _ (table : List ℕ) {old new : List ℕ} {p q : Piece} (n : NextPiece bs table old p new q) where
    pub next-left : turns_left table q ≡ turns_from (turns_left table p) (held [] (turns_left table p))
    next-left = left_behind (take (3 * p.turns) table) table (ap (λ (k : ℕ). take (3 * k) table) n.turns) n.stands

    -- a piece with no turn is empty
    unheld : held [] (turns_left table p) ≡ 0 → q.size ≡ 0
    unfolding piece_text lines_of turn_lines
    unheld e = n.stands.size ∙ rw e

    -- so each piece leaves less to do than the one before
    pub less_work : 0 < p.size → work table q < work table p
    less_work h =
        let l = turns_left table p in
        let d = held [] l in
        let long : length (turns_left table q) ≡ length l - 3 * d = ap length next-left ∙ length-drop (3 * d) l in
        rw (lt-ltb 0 p.size h)
        (by_cases (ltb 0 q.size)
        (λ t. rw t (by_cases (eqb d 0) (λ z. absurd (omega (arith, ltb-true 0 q.size t, unheld (eqb-true d 0 z)))) (λ z. omega (arith, eqb-false d 0 z, gathered-few bs buffer_size 0 l, long))))
        (λ t. rw t (omega (arith, long))))
