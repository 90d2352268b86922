-- Lines are gathered turn by turn: what was gathered and what is still to be gathered make up what the definition gathers.
-- A turn that is not ready puts nothing, and ends the gathering.
use Rattle.std.proofs.Common.{ℕ, zero, suc, ◌+◌, ◌-◌, ◌*◌, ◌≤◌, ◌<◌, ◌≡◌, refl, sym, ap, subst, ◌∙◌, Bool, true, false, List, [], ◌∷◌, ◌++◌, map, append_assoc, append-nil, arith, leb, ltb, length, get_or, take, drop, length-append, length-drop, drop-drop, drop_at, take-add, length-take-le, get_or-take, lt-ltb, le-ltb, ltb-true, ltb-false, leb-true}
use Rattle.lists.proofs.Laws.{by_cases, and_left, and_right}
use Rattle.frame.specs.Frames.{Frame, constraint_at}
use Rattle.frame.specs.Questions.{asked}
use Rattle.frame.specs.Files.{half, count_m, count_j, pairs_at, joints_at, ends_at, second, count_at, places_from, halves_from, decode, file_questions}
use Rattle.frame.proofs.Walks.{Whole, halves_long}
use Rattle.frame.proofs.Files.{file-entry, ends_manifold, ends-first, ends-second}
use Rattle.schedules.specs.Print.{decimal, spaced, turn_line, turn_lines}
use Rattle.print_fields.specs.Puts.{if_left}
use Rattle.printing.specs.Turns.{Standing, EndsStand, longest_turn, longest_of, line_of, ready, if_ready, gathered, turns_from, lines_of, Lines}
use Rattle.turn_table.specs.declared.Turn.{Turn}
use Rattle.turn_table.specs.Turns.{turn_numbers}
use Rattle.writer.specs.declared.Writer.{Writer}
use Rattle.writer.specs.Wrote.{Wrote}
use Rattle.writer.proofs.Writes.{wrote_none, wrote_then, wrote_also}
use Rattle.printing.proofs.Lines.{turn_short}

-- ---- one line

-- where the endpoints of constraint n stand: a pair's, by arithmetic; a joint's of version 2, in its entry
module _ (bs : List ℕ) (n : ℕ) where
  pair_stands : (s : ℕ) → (constraint_at (decode bs) n).ends ≡ half bs s ∷ half bs (s + 2) ∷ [] → EndsStand bs n s 2
  unfolding halves_from
  pair_stands s e = record { ends = sym e; least = omega arith; most = omega arith }

  pub first_stands : n < count_m bs + count_j bs → second bs ≡ false → EndsStand bs n (ends_at bs n) 2
  first_stands h v = pair_stands (ends_at bs n) (ends-first bs n v h)

  pub manifold_stands : n < count_m bs → EndsStand bs n (ends_at bs n) 2
  manifold_stands h = rw (lt-ltb n (count_m bs) h) (pair_stands (pairs_at bs + 4 * n) (ends_manifold bs n h))

  -- the place of the entry of a joint
  abbrev pub entry_of : ℕ
  entry_of = get_or (places_from bs (joints_at bs) (count_j bs)) (n - count_m bs) 0

  module _ (h : n < count_m bs + count_j bs) (v : second bs ≡ true) (f : asked (file_questions bs) ≡ 0) (m : count_m bs ≤ n) where
    entry_whole : Whole bs entry_of
    entry_whole = file-entry bs f v (n - count_m bs) (omega arith)

    pub joint_stands : EndsStand bs n (entry_of + 2) (count_at bs entry_of)
    joint_stands =
        let w = entry_whole in
        record { ends = sym (ends-second bs n v m h); least = w.least; most = w.most }

  -- in a table that begins with the places
  module _ (ps : List ℕ) (w : Standing bs ps) where
    module _ (h : n < count_m bs + count_j bs) (v : second bs ≡ true) (m : count_m bs ≤ n) where
      place_is : get_or ps (n - count_m bs) 0 ≡ entry_of
      place_is = sym (get_or-take (count_j bs) ps (n - count_m bs) 0 (omega arith)) ∙ ap (λ (l : List ℕ). get_or l (n - count_m bs) 0) w.places

      pub place_stands : EndsStand bs n (get_or ps (n - count_m bs) 0 + 2) (count_at bs (get_or ps (n - count_m bs) 0))
      place_stands = rw place_is (joint_stands h v w.file m)

-- the line, from where they stand
module _ (bs : List ℕ) (i k n s c : ℕ) (w : EndsStand bs n s c) where
  line_at : turn_line i k n (halves_from bs s c) ≡ line_of bs i k n
  unfolding line_of
  line_at = ap (turn_line i k n) w.ends

  count_is : c ≡ length (constraint_at (decode bs) n).ends
  count_is = sym (halves_long bs s c) ∙ ap length w.ends

  short_line : length (line_of bs i k n) ≤ longest_of bs n
  short_line =
      subst (λ (c : ℕ). length (line_of bs i k n) ≤ longest_turn c) count_is
      (subst (λ (l : List ℕ). length l ≤ longest_turn c) line_at (turn_short bs s c (omega (arith, w.least)) i k n w.most))

-- no line of an accepted file is too long
line_short : (bs : List ℕ) (i k n : ℕ) → (second bs ≡ true → asked (file_questions bs) ≡ 0) → n < count_m bs + count_j bs → length (line_of bs i k n) ≤ longest_of bs n
line_short bs i k n f h =
    by_cases (second bs)
    (λ v. by_cases (ltb n (count_m bs))
    (λ t. short_line bs i k n _ _ (manifold_stands bs n (ltb-true n (count_m bs) t)))
    (λ t. short_line bs i k n _ _ (joint_stands bs n h v (f v) (ltb-false n (count_m bs) t))))
    (λ v. short_line bs i k n _ _ (first_stands bs n h v))

-- a line has its newline
pub line_some : (bs : List ℕ) (i k n : ℕ) → 1 ≤ length (line_of bs i k n)
unfolding line_of turn_line
line_some bs i k n = omega (arith, length-append (spaced (map decimal (i ∷ k ∷ n ∷ (constraint_at (decode bs) n).ends))) (10 ∷ []))

-- no such constraint
pub no_constraint : (bs : List ℕ) (old : Writer) (i k n : ℕ) → count_m bs + count_j bs ≤ n → Wrote (if_ready bs (length old.out.now) old.at i k n) old old
unfolding if_ready ready
no_constraint bs old i k n h = rw (le-ltb n (count_m bs + count_j bs) h) (wrote_none old)

pub never_ready : (bs : List ℕ) (old : Writer) (n : ℕ) → count_m bs + count_j bs ≤ n → false ≡ ready bs (length old.out.now) old.at n
unfolding ready
never_ready bs old n h = rw (le-ltb n (count_m bs + count_j bs) h) refl

pub ready_with_ends : (bs : List ℕ) (old : Writer) (i k n : ℕ) (s c : ℕ) {b : Bool} → n < count_m bs + count_j bs → EndsStand bs n s c → b ≡ leb (old.at + longest_turn c) (length old.out.now) → b ≡ ready bs (length old.out.now) old.at n
unfolding ready
ready_with_ends bs old i k n s c h w b_is = b_is ∙ rw (lt-ltb n (count_m bs + count_j bs) h, count_is bs i k n s c w) refl

pub with_ends : (bs : List ℕ) (old : Writer) (i k n : ℕ) (s c : ℕ) (new : Writer) → n < count_m bs + count_j bs → EndsStand bs n s c
    → Wrote (if_left (longest_turn c) (length old.out.now) old.at (turn_line i k n (halves_from bs s c))) old new → Wrote (if_ready bs (length old.out.now) old.at i k n) old new
unfolding if_ready ready if_left
with_ends bs old i k n s c new h w p = rw (lt-ltb n (count_m bs + count_j bs) h) (rw (line_at bs i k n s c w, count_is bs i k n s c w) at p)

-- a turn that is ready, and one that is not
module _ (bs : List ℕ) (size at i k n : ℕ) where
  ready_pair : ready bs size at n ≡ true → n < count_m bs + count_j bs
  unfolding ready
  ready_pair e = ltb-true n (count_m bs + count_j bs) (and_left (ltb n (count_m bs + count_j bs)) (leb (at + longest_of bs n) size) e)

  ready_room : ready bs size at n ≡ true → at + longest_of bs n ≤ size
  unfolding ready
  ready_room e = leb-true (at + longest_of bs n) size (and_right (ltb n (count_m bs + count_j bs)) (leb (at + longest_of bs n) size) e)

  ready_text : ready bs size at n ≡ true → if_ready bs size at i k n ≡ line_of bs i k n
  unfolding if_ready
  ready_text e = rw e

  ready_count : (r : List ℕ) → ready bs size at n ≡ true → gathered bs size at (i ∷ k ∷ n ∷ r) ≡ suc (gathered bs size (at + length (line_of bs i k n)) r)
  unfolding gathered
  ready_count r e = rw e

  unready_text : ready bs size at n ≡ false → if_ready bs size at i k n ≡ []
  unfolding if_ready
  unready_text e = rw e

  unready_count : (r : List ℕ) → ready bs size at n ≡ false → gathered bs size at (i ∷ k ∷ n ∷ r) ≡ 0
  unfolding gathered
  unready_count r e = rw e

-- ---- the turns

-- the lines of two turn tables, one after the other
pub lines_append : (f : Frame) (d : ℕ) (xs ys : List ℕ) → length xs ≡ 3 * d → turn_lines f (xs ++ ys) ≡ turn_lines f xs ++ turn_lines f ys
unfolding turn_lines
lines_append f d [] ys e = refl
lines_append f zero (i ∷ xs) ys e = absurd (omega arith)
lines_append f (suc d) (i ∷ []) ys e = absurd (omega arith)
lines_append f (suc d) (i ∷ k ∷ []) ys e = absurd (omega arith)
lines_append f (suc d) (i ∷ k ∷ n ∷ xs) ys e = rw (lines_append f d xs ys (omega arith), append_assoc)

-- the next turn stands in three entries, and the turns after it in the rest
pub next_turn : (turns : List ℕ) (t : ℕ) (x rest : List ℕ) → turns_from turns t ≡ x ++ rest → length x ≡ 3 → rest ≡ turns_from turns (t + 1)
next_turn turns t x rest e l =
    let m : 3 * t + 3 ≡ 3 * (t + 1) = omega arith in
    sym (drop_at x rest 3 l) ∙ ap (drop 3) (sym e) ∙ drop-drop 3 (3 * t) turns ∙ ap (λ (j : ℕ). drop j turns) m

-- no turn is left
no_turn : (bs : List ℕ) (size at : ℕ) (l : List ℕ) → length l < 3 → gathered bs size at l ≡ 0
unfolding gathered
no_turn bs size at [] h = refl
no_turn bs size at (i ∷ []) h = refl
no_turn bs size at (i ∷ k ∷ []) h = refl
no_turn bs size at (i ∷ k ∷ n ∷ r) h = absurd (omega arith)

-- one line more
lines_more : (bs turns : List ℕ) (d i k n : ℕ) (r : List ℕ) → 3 * d ≤ length turns → drop (3 * d) turns ≡ i ∷ k ∷ n ∷ r
    → lines_of bs turns (d + 1) ≡ lines_of bs turns d ++ line_of bs i k n
unfolding lines_of line_of turn_lines
lines_more bs turns d i k n r h e =
    let f = decode bs in
    let m : 3 * (d + 1) ≡ 3 * d + 3 = omega arith in
    ap (λ (j : ℕ). turn_lines f (take j turns)) m
    ∙ ap (turn_lines f) (take-add (3 * d) 3 turns)
    ∙ lines_append f d (take (3 * d) turns) (take 3 (drop (3 * d) turns)) (length-take-le (3 * d) turns h)
    ∙ ap (λ (l : List ℕ). turn_lines f (take (3 * d) turns) ++ turn_lines f (take 3 l)) e
    ∙ ap (λ (l : List ℕ). turn_lines f (take (3 * d) turns) ++ l) (append-nil (turn_line i k n (constraint_at f n).ends))

-- ---- the loop

-- from turn `first` on the lines up to turn t are put
pub record Gathering (bs turns : List ℕ) (first : ℕ) (old new : Writer) (t : ℕ) : Type 0 where
  pub past : first ≤ t
  pub wrote : Wrote (lines_of bs (turns_from turns first) (t - first)) old new
  pub count : gathered bs (length old.out.now) old.at (turns_from turns first) ≡ (t - first) + gathered bs (length old.out.now) new.at (turns_from turns t)

pub gather_first : (bs turns : List ℕ) (first : ℕ) (old : Writer) → Gathering bs turns first old old first
unfolding lines_of turn_lines
gather_first bs turns first old =
    let e : first - first ≡ 0 = omega arith in
    record {
      past = omega arith;
      wrote = rw e (wrote_none old);
      count = omega arith;
    }

module _ (bs turns : List ℕ) (first : ℕ) (old mid : Writer) (t : ℕ) (g : Gathering bs turns first old mid t) where
  -- nothing more is gathered
  gather_end : gathered bs (length old.out.now) mid.at (turns_from turns t) ≡ 0 → Lines bs turns first old mid t
  gather_end e =
      let c : gathered bs (length old.out.now) old.at (turns_from turns first) ≡ t - first = omega (arith, g.count) in
      record {
        wrote = rw c g.wrote;
        turn = omega (arith, g.past);
      }

  -- all turns are gathered
  pub gather_all : length (turns_from turns t) < 3 → Lines bs turns first old mid t
  gather_all h = gather_end (no_turn bs (length old.out.now) mid.at (turns_from turns t) h)

  -- the next turn, with its line put or nothing
  module _ (turn : Turn) (x rest : List ℕ) (e : turns_from turns t ≡ x ++ rest) (l : length x ≡ 3) (m : turn_numbers turn ≡ x)
      (new : Writer) (p : Wrote (if_ready bs (length mid.out.now) mid.at turn.island turn.group turn.number) mid new) where
    abbrev i : ℕ
    i = turn.island

    abbrev k : ℕ
    k = turn.group

    abbrev n : ℕ
    n = turn.number

    here : turns_from turns t ≡ i ∷ k ∷ n ∷ turns_from turns (t + 1)
    here = e ∙ ap (λ (r : List ℕ). x ++ r) (next_turn turns t x rest e l) ∙ ap (λ (y : List ℕ). y ++ turns_from turns (t + 1)) (sym m)

    -- it was not ready
    pub gather_stop : ready bs (length mid.out.now) mid.at n ≡ false → Lines bs turns first old new t
    gather_stop unready =
        let y : ready bs (length old.out.now) mid.at n ≡ false = rw g.wrote.long at unready in
        let lines = gather_end (ap (gathered bs (length old.out.now) mid.at) here ∙ unready_count bs (length old.out.now) mid.at i k n (turns_from turns (t + 1)) y) in
        record { wrote = wrote_also lines.wrote (subst (λ (text : List ℕ). Wrote text mid new) (unready_text bs (length mid.out.now) mid.at i k n unready) p); turn = lines.turn }

    -- it was ready
    pub gather_turn : (second bs ≡ true → asked (file_questions bs) ≡ 0) → ready bs (length mid.out.now) mid.at n ≡ true → Gathering bs turns first old new (t + 1)
    gather_turn file is_ready =
        let y : ready bs (length old.out.now) mid.at n ≡ true = rw g.wrote.long at is_ready in
        let was = subst (λ (text : List ℕ). Wrote text mid new) (ready_text bs (length mid.out.now) mid.at i k n is_ready) p in
        let d = t - first in
        let left = turns_from turns first in
        let q : t + 1 - first ≡ d + 1 = omega (arith, g.past) in
        let s : 3 * first + 3 * d ≡ 3 * t = omega (arith, g.past) in
        let f : drop (3 * d) left ≡ i ∷ k ∷ n ∷ turns_from turns (t + 1) = drop-drop (3 * d) (3 * first) turns ∙ ap (λ (j : ℕ). drop j turns) s ∙ here in
        let some : 3 * t ≤ length turns = omega (arith, length-drop (3 * t) turns, ap length here) in
        let more : lines_of bs left (d + 1) ≡ lines_of bs left d ++ line_of bs i k n =
        lines_more bs left d i k n (turns_from turns (t + 1)) (omega (arith, g.past, some, length-drop (3 * first) turns)) f in
        let room = ready_room bs (length old.out.now) mid.at i k n y in
        let short = line_short bs i k n file (ready_pair bs (length old.out.now) mid.at i k n y) in
        record {
          past = omega (arith, g.past);
          wrote = rw (q, more) (wrote_then g.wrote was (omega (arith, g.wrote.next, room, short)));
          count =
              g.count
              ∙ ap (λ (r : List ℕ). d + gathered bs (length old.out.now) mid.at r) here
              ∙ ap (λ (r : ℕ). d + r) (ready_count bs (length old.out.now) mid.at i k n (turns_from turns (t + 1)) y)
              ∙ ap (λ (r : ℕ). d + suc (gathered bs (length old.out.now) r (turns_from turns (t + 1)))) (sym was.next)
              ∙ omega (arith, q);
        }

-- no more turns are gathered than there are
pub gathered-few : (bs : List ℕ) (size at : ℕ) (turns : List ℕ) → 3 * gathered bs size at turns ≤ length turns
unfolding gathered
gathered-few bs size at [] = omega arith
gathered-few bs size at (i ∷ []) = omega arith
gathered-few bs size at (i ∷ k ∷ []) = omega arith
gathered-few bs size at (i ∷ k ∷ n ∷ r) =
    by_cases (ready bs size at n) (λ e. rw e (omega (arith, gathered-few bs size (at + length (line_of bs i k n)) r))) (λ e. rw e (omega arith))
