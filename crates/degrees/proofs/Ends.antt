-- Constraints by their endpoints: a live one that passes question 7 has endpoints that are all different and have places in the tables, so
-- each counts once, for as much as the constraint does.
use Rattle.std.proofs.Common.{ℕ, ◌+◌, ◌≤◌, ◌<◌, ◌≡◌, refl, ap, ◌∙◌, Bool, true, false, not, ◌&&◌, ◌||◌, cond, List, [], ◌∷◌, arith, add-one, ltb, eqb, length, get_or, drop, drop_of_length-le, drop-cons, eqb-true}
use Rattle.std.proofs.Math.Bool.{or-false, or_assoc}
use mir.Val.{bool_byte}
use Rattle.std.proofs.lemmas.Bool.{not-true}
use Rattle.lists.specs.Basics.{one, any, all, mem, distinct}
use Rattle.lists.proofs.Laws.{and_left, and_right, by_cases}
use Rattle.frame.specs.Frames.{frame_of, on, touches, sound}
use Rattle.frame.proofs.Counted.{Fitting, sound-fits}
use Rattle.degrees.specs.Counts.{added, Addable, Added, counts_for, Countable, Counted}

-- ---- a scan of the endpoints

module _ (p : ℕ → Bool) (ends : List ℕ) (i : ℕ) (t : Bool) where
  pub any_turn : i < length ends → (t || any p (drop i ends)) ≡ any p ends → ((t || p (get_or ends i 0)) || any p (drop (i + 1) ends)) ≡ any p ends
  any_turn h e = rw (or_assoc, add-one) (rw (drop-cons ends i 0 h) at e)

  pub any_last : length ends ≤ i → (t || any p (drop i ends)) ≡ any p ends → t ≡ any p ends
  any_last h e = rw (drop_of_length-le ends h, or-false) at e

-- ---- one constraint

added_once : (amount : ℕ) (xs : List ℕ) (b : ℕ) → distinct xs ≡ true → added amount xs b ≡ cond (mem b xs) amount 0
added_once amount [] b d = refl
added_once amount (x ∷ xs) b d =
    let more = added_once amount xs b (and_right (not (mem x xs)) (distinct xs) d) in
    by_cases (eqb b x)
    (λ e. let out : mem b xs ≡ false = ap (λ (y : ℕ). mem y xs) (eqb-true b x e) ∙ not-true (mem x xs) (and_left (not (mem x xs)) (distinct xs) d) in rw (e, more, out) (omega arith))
    (λ e. rw (e, more) (omega arith))

both : (t m : Bool) → one (t && m) ≡ cond m (bool_byte t) 0
both true true = refl
both true false = refl
both false true = refl
both false false = refl

module _ (ts counts ends : List ℕ) (live : Bool) (h : Countable ts (record { ends = ends; live = live } ∷ []) counts) (e : live ≡ true) where
  fitting : Fitting (length counts) ends
  fitting = sound-fits (length counts) (record { ends = ends; live = live }) e (and_left (sound (length counts) (record { ends = ends; live = live })) true h.sound)

  pub ends_there : all (λ b. ltb b (length ts)) ends ≡ true
  ends_there = rw (← h.long) fitting.inside

  -- t: it touches a dynamic body
  module _ (t : Bool) (et : t ≡ touches (frame_of ts [] [] []) (record { ends = ends; live = true })) where
    counts_once : (b : ℕ) → one (counts_for ts b (record { ends = ends; live = live })) ≡ added (bool_byte t) ends b
    unfolding on
    counts_once b = rw (e, ← et, added_once (bool_byte t) ends b fitting.apart) (both t (mem b ends))

    pub ends_addable : Addable (bool_byte t) ends counts
    ends_addable = record { inside = fitting.inside; fits = λ b l. omega (arith, h.fits b l, counts_once b) }

    pub counted-ends : (new : List ℕ) → Added (bool_byte t) ends counts new → Counted ts (record { ends = ends; live = live } ∷ []) counts new
    counted-ends new a = record { each = λ b l. omega (arith, a.each b l, counts_once b) }
