-- What is counted and what is still to come make up the whole.
use Rattle.std.proofs.Common.{ℕ, suc, drop, drop-drop, get_or-drop, length-drop, ◌+◌, ◌≤◌, ◌<◌, max, ◌≡◌, refl, sym, ap, ◌∙◌, Bool, true, false, ◌&&◌, List, [], ◌∷◌, arith, add-one, eqb, length, get_or, replicate}
use Rattle.std.proofs.Math.ListN.{length-replicate, get_or-replicate}
use Rattle.lists.specs.Basics.{one, all, count, max_of, range, mem}
use Rattle.lists.proofs.Laws.{and_left, and_right, or_right, mem_self, range_high, all_append, count-few, and_both}
use Rattle.lists.proofs.Ranges.{max-range-suc}
use Rattle.lists.proofs.Sums.{sum_append}
use Rattle.frame.specs.Frames.{Constraint, Frame, constraints, dynamic, touches, sound, all_sound, degree, degree_max}
use Rattle.degrees.specs.Counts.{counts_for, Countable, Counted, counted}

-- a dead constraint counts for no body
pub counted_dead : (ts counts : List ℕ) (c : Constraint) → c.live ≡ false → Counted ts (c ∷ []) counts counts
unfolding touches
counted_dead ts counts c e = record { each = λ x l. rw e (omega arith) }

-- ---- one after another

-- of all constraints `rest` are still to come
pub record Counting (ts : List ℕ) (cs rest : List Constraint) (old now : List ℕ) : Type 0 where
  pub sound : all (sound (length old)) rest ≡ true
  pub long : length now ≡ length old
  pub each : (b : ℕ) → b < length old → get_or now b 0 + count (counts_for ts b) rest ≡ get_or old b 0 + count (counts_for ts b) cs

module _ {ts : List ℕ} {cs rest later : List Constraint} {c : Constraint} {old now : List ℕ} (h : Countable ts cs old) (g : Counting ts cs rest old now) (e : rest ≡ c ∷ later) where
  next : Counting ts cs (c ∷ later) old now
  next = rw e at g

  -- the next one can be counted
  pub counting_one : Countable ts (c ∷ []) now
  counting_one = record {
    sound = rw next.long (and_both (sound (length old) c) true (and_left (sound (length old) c) (all (sound (length old)) later) next.sound) refl);
    long = next.long ∙ h.long;
    fits = λ b k. omega (arith, next.long, next.each b (omega (arith, next.long)), h.fits b (omega (arith, next.long)));
  }

  pub counting_more : (new : List ℕ) → length new ≡ length now → Counted ts (c ∷ []) now new → Counting ts cs later old new
  counting_more new l d = record {
    sound = and_right (sound (length old) c) (all (sound (length old)) later) next.sound;
    long = l ∙ next.long;
    each = λ b k.
        let k' : b < length now = omega (arith, next.long) in
        omega (arith, next.each b k, d.each b k');
  }

pub counting_last : {ts : List ℕ} {cs rest : List Constraint} {old now : List ℕ} → Counting ts cs rest old now → rest ≡ [] → Counted ts cs old now
counting_last g e =
    let last : Counting _ _ [] _ _ = rw e at g in
    record { each = λ b l. omega (arith, last.each b l) }

-- ---- the largest

max_ext_in : (g h : ℕ → ℕ) (xs : List ℕ) → ((x : ℕ) → mem x xs ≡ true → g x ≡ h x) → max_of g xs ≡ max_of h xs
max_ext_in g h [] e = refl
max_ext_in g h (x ∷ xs) e = rw (e x (mem_self x xs), max_ext_in g h xs (λ y m. e y (or_right (eqb y x) (mem y xs) m)))

pub largest_turn : (g : ℕ → ℕ) (i most more : ℕ) → most ≡ max_of g (range i) → more ≡ max most (g i) → more ≡ max_of g (range (i + 1))
largest_turn g i most more e f = f ∙ rw (e, add-one) (sym (max-range-suc g i))

-- x is the first entry behind the first n of a list: it stands at place n, and r are those behind it
module _ (xs r : List ℕ) (n x : ℕ) (e : drop n xs ≡ x ∷ r) where
  pub entry_next : get_or xs n 0 ≡ x
  entry_next =
      let z : n + 0 ≡ n = omega arith in
      rw z at (sym (get_or-drop n xs 0 0)) ∙ ap (λ (l : List ℕ). get_or l 0 0) e

  pub left_next : r ≡ drop (n + 1) xs
  left_next = ap (drop 1) (sym e) ∙ drop-drop 1 n xs

  pub place_next : n < length xs
  place_next = let l : length (drop n xs) ≡ suc (length r) = ap length e in omega (arith, l, length-drop n xs)

-- ---- a frame's constraints, counted from 0 on: manifolds, then joints

module _ (f : Frame) (n : ℕ) (long : n ≡ length f.types) (ok : all_sound f ≡ true) (few : length (constraints f) ≤ 8192) where
  both-sound : (all (sound n) f.manifolds && all (sound n) f.joints) ≡ true
  unfolding all_sound
  both-sound = sym (all_append (sound n) f.manifolds f.joints) ∙ rw long ok

  -- what counts for a body in the whole frame
  abbrev on_body : ℕ → Constraint → Bool
  on_body b = counts_for f.types b

  on_both : (b : ℕ) → count (on_body b) (constraints f) ≡ count (on_body b) f.manifolds + count (on_body b) f.joints
  on_both b = sum_append (λ c. one (on_body b c)) f.manifolds f.joints

  few_on : (b : ℕ) → count (on_body b) f.manifolds + count (on_body b) f.joints ≤ 8192
  few_on b = omega (arith, on_both b, count-few (on_body b) (constraints f), few)

  module _ (zeros : List ℕ) (z : zeros ≡ replicate n 0) where
    zero-at : (b : ℕ) → b < n → get_or zeros b 0 ≡ 0
    zero-at b l = rw z (get_or-replicate n b 0 0 l)

    zeros_long : length zeros ≡ n
    zeros_long = rw z (length-replicate n 0)

    pub manifolds_countable : Countable f.types f.manifolds zeros
    manifolds_countable = record {
      sound = rw zeros_long (and_left (all (sound n) f.manifolds) (all (sound n) f.joints) both-sound);
      long = zeros_long ∙ long;
      fits = λ b l. omega (arith, few_on b, zero-at b (omega (arith, zeros_long)));
    }

    module _ (first : List ℕ) (long₁ : length first ≡ length zeros) (h : Counted f.types f.manifolds zeros first) where
      first-at : (b : ℕ) → b < n → get_or first b 0 ≡ count (on_body b) f.manifolds
      first-at b l = omega (arith, h.each b (omega (arith, zeros_long)), zero-at b l)

      pub joints_countable : Countable f.types f.joints first
      joints_countable = record {
        sound = rw (long₁ ∙ zeros_long) (and_right (all (sound n) f.manifolds) (all (sound n) f.joints) both-sound);
        long = long₁ ∙ zeros_long ∙ long;
        fits = λ b l. let k : b < n = omega (arith, long₁, zeros_long) in omega (arith, few_on b, first-at b k);
      }

      pub degree_largest : (second : List ℕ) → Counted f.types f.joints first second → max_of (λ b. counted (get_or f.types b 0) (get_or second b 0)) (range (length f.types)) ≡ degree_max f
      unfolding degree_max degree touches dynamic
      degree_largest second d = max_ext_in _ _ (range (length f.types))
          (λ b m.
          let k : b < n = omega (arith, long, range_high b 0 (length f.types) m) in
          let e : get_or second b 0 ≡ count (on_body b) (constraints f) = omega (arith, d.each b (omega (arith, long₁, zeros_long)), first-at b k, on_both b) in
          ap (counted (get_or f.types b 0)) e)
