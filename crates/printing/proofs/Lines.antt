-- The lines as their fields one behind the other, each with its end; and the test for room.
use Rattle.std.proofs.Common.{ℕ, suc, ◌+◌, ◌-◌, ◌*◌, ◌≤◌, ◌<◌, ◌≡◌, refl, sym, ap, subst, ◌∙◌, true, false, List, [], ◌∷◌, ◌++◌, map, append_assoc, arith, leb, length, length-append, leb-true}
use Rattle.lists.proofs.Laws.{by_cases}
use Rattle.frame.specs.Files.{half, halves_from}
use Rattle.frame.proofs.Walks.{halves_next, halves_long}
use Rattle.schedules.specs.Print.{decimal, spaced, line, head_of, turn_line, refusal_line, islands_word, turns_word, takes_word, degree_word, refused_word}
use Rattle.print_fields.specs.Puts.{if_left}
use Rattle.printing.specs.Turns.{longest_turn}
use Rattle.writer.specs.declared.Writer.{Writer}
use Rattle.writer.specs.Wrote.{Wrote}
use Rattle.writer.proofs.Writes.{wrote_none, wrote_then}
use Rattle.print_fields.proofs.Fields.{number, field, number_short}

pub head_fields : (i t k d : ℕ) → field islands_word i 32 ++ field turns_word t 32 ++ field takes_word k 32 ++ field degree_word d 10 ≡ head_of i t k d
unfolding head_of spaced
head_fields i t k d = simp append_assoc

-- ---- the numbers of a turn: each with a space, the last one with the newline

pub ends_first : (e d : ℕ) (es : List ℕ) → number e 32 ++ line (map decimal (d ∷ es)) ≡ line (map decimal (e ∷ d ∷ es))
unfolding spaced
ends_first e d es = simp append_assoc

ends-few : (e : ℕ) (es : List ℕ) → length (line (map decimal (e ∷ es))) ≤ 21 * suc (length es)
unfolding spaced
ends-few e [] = number_short e 10
ends-few e (d ∷ es) = subst (λ (l : List ℕ). length l ≤ 21 * suc (suc (length es))) (ends_first e d es) (omega (arith, length-append (number e 32) (line (map decimal (d ∷ es))), number_short e 32, ends-few d es))

turn_numbers : (i k n e : ℕ) (es : List ℕ) → number i 32 ++ number k 32 ++ number n 32 ++ line (map decimal (e ∷ es)) ≡ turn_line i k n (e ∷ es)
unfolding turn_line spaced
turn_numbers i k n e es = simp append_assoc

-- three numbers and c more
pub turn_room : (c : ℕ) → c ≤ 4 → 63 + 21 * c ≤ longest_turn c
turn_room c h = by_cases (leb c 2) (λ e. rw e (omega (arith, leb-true c 2 e))) (λ e. rw e (omega (arith, h)))

-- no turn needs more room than one of four bodies
pub most_turn : (c : ℕ) → longest_turn c ≤ 147
most_turn c = by_cases (leb c 2) (λ e. rw e (omega arith)) (λ e. rw e (omega arith))

pub room_for_turn : (c : ℕ) {most : ℕ} (at size : ℕ) → most ≡ longest_turn c → c ≤ 4 → leb (at + most) size ≡ true → at + (63 + 21 * c) ≤ size
room_for_turn c {most} at size e h r = omega (arith, turn_room c h, e, leb-true (at + most) size r)

-- of endpoints in a file: c of them from place s on
abbrev pub ends_line : List ℕ → ℕ → ℕ → List ℕ
ends_line bs s c = line (map decimal (halves_from bs s c))

module _ (bs : List ℕ) (s c : ℕ) where
  pub ends_last : c ≡ 1 → number (half bs s) 10 ≡ ends_line bs s c
  unfolding halves_from spaced
  ends_last e = rw e

  module _ (h : 0 < c) where
    here : half bs s ∷ halves_from bs (s + 2) (c - 1) ≡ halves_from bs s c
    here = sym (halves_next bs s c h)

    pub ends_more : 1 < c → number (half bs s) 32 ++ ends_line bs (s + 2) (c - 1) ≡ ends_line bs s c
    ends_more m =
        let then = halves_next bs (s + 2) (c - 1) (omega arith) in
        ap (λ (l : List ℕ). number (half bs s) 32 ++ line (map decimal l)) then
        ∙ ends_first (half bs s) (half bs (s + 2)) (halves_from bs (s + 2 + 2) (c - 1 - 1))
        ∙ ap (λ (l : List ℕ). line (map decimal (half bs s ∷ l))) (sym then)
        ∙ ap (λ (l : List ℕ). line (map decimal l)) here

    pub ends_short : length (ends_line bs s c) ≤ 21 * c
    ends_short = subst (λ (l : List ℕ). length (line (map decimal l)) ≤ 21 * c) here (omega (arith, ends-few (half bs s) (halves_from bs (s + 2) (c - 1)), halves_long bs (s + 2) (c - 1)))

    pub turn_fields : (i k n : ℕ) → number i 32 ++ number k 32 ++ number n 32 ++ ends_line bs s c ≡ turn_line i k n (halves_from bs s c)
    turn_fields i k n =
        ap (λ (l : List ℕ). number i 32 ++ number k 32 ++ number n 32 ++ line (map decimal l)) (sym here)
        ∙ turn_numbers i k n (half bs s) (halves_from bs (s + 2) (c - 1))
        ∙ ap (turn_line i k n) here

    pub turn_short : (i k n : ℕ) → c ≤ 4 → length (turn_line i k n (halves_from bs s c)) ≤ longest_turn c
    turn_short i k n m =
        let ends = ends_line bs s c in
        subst (λ (l : List ℕ). length l ≤ longest_turn c) (turn_fields i k n)
        (omega (
          arith,
          turn_room c m,
          ends_short,
          number_short i 32,
          number_short k 32,
          number_short n 32,
          length-append (number i 32 ++ number k 32 ++ number n 32) ends,
          length-append (number i 32 ++ number k 32) (number n 32),
          length-append (number i 32) (number k 32),
        ))

-- ---- the endpoints put one after another: those that are put, and those still to be put, are all

pub record Ending (bs : List ℕ) (s c : ℕ) (old new : Writer) (i : ℕ) : Type 0 where
  pub done : List ℕ
  pub wrote : Wrote done old new
  pub room : new.at + 21 * (c - i) ≤ length new.out.now
  pub rest : done ++ ends_line bs (s + 2 * i) (c - i) ≡ ends_line bs s c

pub ends_begin : (bs : List ℕ) (s c : ℕ) (old : Writer) → old.at + 21 * c ≤ length old.out.now → Ending bs s c old old 0
ends_begin bs s c old room = record {
  done = [];
  wrote = wrote_none old;
  room = omega (arith, room);
  rest = let e : s + 2 * 0 ≡ s = omega arith in let f : c - 0 ≡ c = omega arith in rw (e, f) refl;
}

module _ (bs : List ℕ) (s c : ℕ) (old mid : Writer) (i : ℕ) (w : Ending bs s c old mid i) (x : ℕ) (new : Writer) (e : x ≡ half bs (s + 2 * i)) where
  size : length w.done + old.at ≡ mid.at
  size = omega (arith, w.wrote.next)

  pub ends_turn : i < c - 1 → Wrote (number x 32) mid new → Ending bs s c old new (i + 1)
  ends_turn h p =
      let at : s + 2 * i + 2 ≡ s + 2 * (i + 1) = omega arith in
      let left : c - i - 1 ≡ c - (i + 1) = omega arith in
      record {
        done = w.done ++ number x 32;
        wrote = wrote_then w.wrote p (omega (arith, size, w.room, w.wrote.long, number_short x 32));
        room = omega (arith, w.room, p.next, p.long, number_short x 32);
        rest =
            append_assoc w.done (number x 32) (ends_line bs (s + 2 * (i + 1)) (c - (i + 1)))
            ∙ ap (λ (y : ℕ). w.done ++ (number y 32 ++ ends_line bs (s + 2 * (i + 1)) (c - (i + 1)))) e
            ∙ ap (λ (l : List ℕ). w.done ++ l) (rw (at, left) at (ends_more bs (s + 2 * i) (c - i) (omega arith) (omega arith)))
            ∙ w.rest;
      }

  pub ends-end : i + 1 ≡ c → Wrote (number x 10) mid new → Wrote (ends_line bs s c) old new
  ends-end h p =
      let one : c - i ≡ 1 = omega arith in
      let whole = wrote_then w.wrote p (omega (arith, size, w.room, w.wrote.long, number_short x 10)) in
      subst (λ (l : List ℕ). Wrote l old new)
      (ap (λ (y : ℕ). w.done ++ number y 10) e ∙ ap (λ (l : List ℕ). w.done ++ l) (ends_last bs (s + 2 * i) (c - i) one) ∙ w.rest)
      whole

pub refusal-field : (n : ℕ) → field refused_word n 10 ≡ refusal_line n
unfolding refusal_line spaced
refusal-field n = simp append_assoc

-- without room nothing is put
pub no_room : (most : ℕ) (text : List ℕ) (old : Writer) → leb (old.at + most) (length old.out.now) ≡ false → Wrote (if_left most (length old.out.now) old.at text) old old
unfolding if_left
no_room most text old e = rw e (wrote_none old)

-- with room the text is put
pub with_room : (most : ℕ) (text line : List ℕ) (old new : Writer) → leb (old.at + most) (length old.out.now) ≡ true → text ≡ line → Wrote text old new → Wrote (if_left most (length old.out.now) old.at line) old new
unfolding if_left
with_room most text line old new e t p = rw e (subst (λ (l : List ℕ). Wrote l old new) t p)
