-- The pieces from the first to the last are the whole print of a file.
-- Every constraint in a run's turn table is one of the file (condition 3), so a piece has a line while a turn is left; a piece's lines and
-- those of the turns that it leaves are the lines of the turns before it.
use Rattle.std.proofs.Common.{ℕ, zero, suc, ◌+◌, ◌*◌, ◌≤◌, ◌<◌, ◌≡◌, refl, sym, ap, ◌∙◌, Bool, true, false, ◌&&◌, List, [], ◌∷◌, ◌++◌, append_assoc, arith, ltb, eqb, length, take, drop, length-append, take-append-drop, length-take-le, take_at, lt-ltb, le-leb, eq-eqb, eqb-true}
use Rattle.std.proofs.Math.Seq.{drop-nil}
use Rattle.lists.specs.Basics.{one, join_map}
use Rattle.lists.proofs.Laws.{by_cases, clashes, and_left, and_right, and_both}
use Rattle.frame.specs.Frames.{Frame, constraints, constraint_at, touches}
use Rattle.frame.specs.Files.{second, count_m, count_j, decode, frame_refusal}
use Rattle.frame.proofs.Files.{constraint-count}
use Rattle.frame.proofs.Pairs.{live_number}
use Rattle.schedules.specs.Runs.{Call, Report, turn_of, run_calls, run_refusal, run_of}
use Rattle.schedules.specs.Print.{decimal, spaced, islands_word, turns_word, takes_word, degree_word, refused_word, head_of, refusal_line, turn_lines, first_line, answer_to, print_of}
use Rattle.schedules.specs.Condition.{takes_on}
use Rattle.schedules.proofs.Accepted.{accepted}
use Rattle.schedules.proofs.Condition3.{run_once, run_report_lem}
use Rattle.printing.specs.Turns.{longest_of, line_of, ready, gathered, turns_from, lines_of}
use Rattle.printing.proofs.Lines.{most_turn}
use Rattle.printing.proofs.Turns.{line_some, lines_append, gathered-few}
use Rattle.print_pieces.specs.declared.Piece.{Piece}
use Rattle.print_pieces.specs.Pieces.{buffer_size, piece_text, PieceStands, turns_left, NextPiece, Written, done, more, WholePrint}
use Rattle.print_pieces.proofs.Answers.{table_long}
use Rattle.print_pieces.proofs.Pieces.{held, opening_fits, left_behind, next-left}

-- a turn table of the file: three numbers a turn, each constraint there
known : List ℕ → List ℕ → Bool
known bs [] = true
known bs (i ∷ []) = false
known bs (i ∷ k ∷ []) = false
known bs (i ∷ k ∷ n ∷ r) = ltb n (count_m bs + count_j bs) && known bs r

known-rest : (bs : List ℕ) (d : ℕ) (l : List ℕ) → known bs l ≡ true → known bs (turns_from l d) ≡ true
unfolding known
known-rest bs zero l h = h
known-rest bs (suc d) [] h = ap (known bs) (drop-nil (3 * suc d))
known-rest bs (suc d) (i ∷ k ∷ n ∷ r) h =
    let e : 3 * suc d ≡ suc (suc (suc (3 * d))) = omega arith in
    ap (λ (m : ℕ). known bs (drop m (i ∷ k ∷ n ∷ r))) e ∙ known-rest bs d r (and_right (ltb n (count_m bs + count_j bs)) (known bs r) h)
known-rest bs (suc d) (i ∷ []) h = clashes false h refl
known-rest bs (suc d) (i ∷ k ∷ []) h = clashes false h refl

-- with room for a line, a turn that is left is gathered
none_left : (bs : List ℕ) (size at : ℕ) (l : List ℕ) → known bs l ≡ true → at + 147 ≤ size → gathered bs size at l ≡ 0 → l ≡ []
unfolding known gathered ready
none_left bs size at [] h room e = refl
none_left bs size at (i ∷ []) h room e = clashes false h refl
none_left bs size at (i ∷ k ∷ []) h room e = clashes false h refl
none_left bs size at (i ∷ k ∷ n ∷ r) h room e =
    absurd (omega (arith, rw (and_left (ltb n (count_m bs + count_j bs)) (known bs r) h, le-leb (at + longest_of bs n) size (omega (arith, room, most_turn (length (constraint_at (decode bs) n).ends)))) at e))

-- and its line is not empty
no_lines : (bs l : List ℕ) (d : ℕ) → 3 * d ≤ length l → length (lines_of bs l d) ≡ 0 → d ≡ 0
unfolding lines_of turn_lines line_of
no_lines bs l zero h e = refl
no_lines bs [] (suc d) h e = absurd (omega arith)
no_lines bs (i ∷ []) (suc d) h e = absurd (omega arith)
no_lines bs (i ∷ k ∷ []) (suc d) h e = absurd (omega arith)
no_lines bs (i ∷ k ∷ n ∷ r) (suc d) h e =
    let m : 3 * suc d ≡ suc (suc (suc (3 * d))) = omega arith in
    absurd (omega (arith, length-append (line_of bs i k n) (turn_lines (decode bs) (take (3 * d) r)), line_some bs i k n, rw m at e))

-- ---- the turn table of a run

known_calls : (bs : List ℕ) (cs : List Call) → ((n : ℕ) → 1 ≤ takes_on n cs → n < count_m bs + count_j bs) → known bs (join_map turn_of cs) ≡ true
unfolding known
known_calls bs [] h = refl
known_calls bs (c ∷ cs) h =
    and_both (ltb c.constraint (count_m bs + count_j bs)) (known bs (join_map turn_of cs))
    (lt-ltb c.constraint (count_m bs + count_j bs) (h c.constraint (omega (arith, ap one (eq-eqb c.constraint c.constraint refl)))))
    (known_calls bs cs (λ n t. h n (omega arith)))

touches_live : (f : Frame) (n : ℕ) → touches f (constraint_at f n) ≡ true → n < length (constraints f)
unfolding touches
touches_live f n t = live_number f n (and_left (constraint_at f n).live _ t)

-- a constraint that is taken is one of the file
taken_known : (bs : List ℕ) → frame_refusal bs ≡ 0 → (n : ℕ) → 1 ≤ takes_on n (run_calls (second bs) (decode bs)) → n < count_m bs + count_j bs
taken_known bs e n h =
    let f = decode bs in
    let once = run_once f (accepted bs e) n in
    by_cases (touches f (constraint_at f n))
    (λ t. omega (arith, touches_live f n t, constraint-count bs))
    (λ t. absurd (omega (arith, once, ap one t)))

known_run : (bs : List ℕ) → frame_refusal bs ≡ 0 → known bs (run_of bs true).table ≡ true
known_run bs e =
    let f = decode bs in
    ap (λ (r : Report). known bs r.table) (run_report_lem bs e)
    ∙ known_calls bs (run_calls (second bs) f) (taken_known bs e)

-- ---- the whole print

accepted_run : (bs : List ℕ) → run_refusal bs true ≡ 0 → frame_refusal bs ≡ 0
unfolding run_refusal frame_refusal
accepted_run bs e = e

known-answer : (bs : List ℕ) → known bs (answer_to bs).table ≡ true
unfolding answer_to run_of known
known-answer bs =
    by_cases (ltb 61451 (length bs))
    (λ e. rw e)
    (λ e. rw e (by_cases (eqb (run_refusal bs true) 0) (λ t. known_run bs (accepted_run bs (eqb-true (run_refusal bs true) 0 t))) (λ t. rw t)))

-- the first line has its newline
first_some : (r : Report) → 1 ≤ length (first_line r)
unfolding first_line head_of refusal_line
first_some r =
    by_cases (eqb r.refusal 0)
    (λ e. rw e (omega (arith, length-append (spaced (islands_word ∷ decimal r.islands ∷ turns_word ∷ decimal r.turns ∷ takes_word ∷ decimal r.takes ∷ degree_word ∷ decimal r.degree ∷ [])) (10 ∷ []))))
    (λ e. rw e (omega (arith, length-append (spaced (refused_word ∷ decimal r.refusal ∷ [])) (10 ∷ []))))

module _ (bs : List ℕ) where
  abbrev f : Frame
  f = decode bs

  -- a piece's text and the lines of the turns behind it
  piece_join : (opening turns : List ℕ) → piece_text bs opening turns ++ turn_lines f (turns_from turns (held bs opening turns)) ≡ opening ++ turn_lines f turns
  unfolding piece_text lines_of
  piece_join opening turns =
      let d = held bs opening turns in
      append_assoc opening (turn_lines f (take (3 * d) turns)) (turn_lines f (drop (3 * d) turns))
      ∙ ap (λ (l : List ℕ). opening ++ l)
      (sym (lines_append f d (take (3 * d) turns) (drop (3 * d) turns) (length-take-le (3 * d) turns (gathered-few bs buffer_size (length opening) turns)))
      ∙ ap (turn_lines f) (take-append-drop (3 * d) turns))

  -- what is written of a piece
  text_out : {opening turns old new : List ℕ} {first : ℕ} {p : Piece} → PieceStands bs opening turns first old new p → take p.size new ≡ piece_text bs opening turns
  text_out {opening} {turns} {old} s = rw s.text (take_at (piece_text bs opening turns) (drop (length (piece_text bs opening turns)) old) _ (sym s.size))

  module _ (table : List ℕ) where
    next-join : {old new : List ℕ} {p q : Piece} → NextPiece bs table old p new q → take q.size new ++ turn_lines f (turns_left table q) ≡ turn_lines f (turns_left table p)
    next-join {p = p} n = rw (text_out n.stands, next-left bs table n) (piece_join [] (turns_left table p))

    -- an empty piece leaves nothing
    next-ends : {old new : List ℕ} {p q : Piece} → known bs (turns_left table p) ≡ true → NextPiece bs table old p new q → q.size ≡ 0 → turns_left table q ≡ []
    unfolding piece_text
    next-ends {p = p} k n z =
        let l = turns_left table p in
        let e : held bs [] l ≡ 0 = no_lines bs l (held bs [] l) (gathered-few bs buffer_size 0 l) (sym n.stands.size ∙ z) in
        next-left bs table n ∙ ap (λ (t : List ℕ). drop (3 * held bs [] l) t) (none_left bs buffer_size 0 l k (omega arith) e) ∙ drop-nil (3 * held bs [] l)

    rest : {buffer text : List ℕ} {p : Piece} → known bs (turns_left table p) ≡ true → (p.size ≡ 0 → turns_left table p ≡ []) → Written bs table buffer p text
        → text ≡ take p.size buffer ++ turn_lines f (turns_left table p)
    unfolding turn_lines
    rest k e (done z) = rw (z, e z)
    rest {p = p} k e (more {buffer = buffer} {q = q} s n w) =
        ap (λ (t : List ℕ). take p.size buffer ++ t)
        (rest (ap (known bs) (next-left bs table n) ∙ known-rest bs (held bs [] (turns_left table p)) (turns_left table p) k) (next-ends k n) w ∙ next-join n)

pub whole_print : WholePrint
unfolding print_of
whole_print bs ts old table buffer p text first written =
    let r = answer_to bs in
    let all : take (3 * p.turns) table ≡ r.table = rw first.table (take_at r.table (drop (length r.table) ts) (3 * p.turns) (table_long bs ∙ omega (arith, first.turns))) in
    let left = left_behind bs r.table table all first.stands in
    let some : p.size ≡ 0 → turns_left table p ≡ [] = λ z. absurd (omega (arith, opening_fits bs first.stands, first_some r)) in
    let join : take p.size buffer ++ turn_lines (decode bs) (turns_left table p) ≡ print_of bs = rw (text_out bs first.stands, left) (piece_join bs (first_line r) r.table) in
    rest bs table (ap (known bs) left ∙ known-rest bs (held bs (first_line r) r.table) r.table (known-answer bs)) some written ∙ join
