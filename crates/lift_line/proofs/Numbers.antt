-- A number read digit by digit: what was read and what is left make up the field. The value is below 10 to the digits read, so it fits.
use Rattle.std.proofs.Common.{ℕ, zero, suc, ◌+◌, ◌-◌, ◌*◌, ◌^◌, ◌≤◌, ◌<◌, ◌≡◌, refl, sym, ap, ◌∙◌, true, false, List, [], ◌∷◌, arith, add-one, length, get_or, drop, drop-cons}
use Rattle.lift_line.specs.Lines.{digit, digits_of, value_of, field_at, end_of, number_at}
use Rattle.lift_line.proofs.Tests.{digit_low, digit_high, inside}

-- the numbers below it have at most d digits
abbrev enough : ℕ → ℕ
enough zero = 1
enough (suc d) = 10 * enough d

enough-le : (d e : ℕ) → d ≤ e → enough d ≤ enough e
enough-le zero zero h = omega arith
enough-le zero (suc e) h = omega (arith, enough-le zero e (omega arith))
enough-le (suc d) zero h = absurd (omega arith)
enough-le (suc d) (suc e) h = omega (arith, enough-le d e (omega arith))

-- the digits left at a place: none without a digit there; else that one, and those after it
digits_off : (n : ℕ) (xs : List ℕ) (i : ℕ) → digit (get_or xs i 0) ≡ false → digits_of n (drop i xs) ≡ []
digits_off zero xs i h = refl
digits_off (suc n) [] zero h = refl
digits_off (suc n) [] (suc i) h = refl
digits_off (suc n) (x ∷ xs) zero h = rw h
digits_off (suc n) (x ∷ xs) (suc i) h = digits_off (suc n) xs i h

digits-on : (n : ℕ) (xs : List ℕ) (i : ℕ) → digit (get_or xs i 0) ≡ true → digits_of (suc n) (drop i xs) ≡ get_or xs i 0 ∷ digits_of n (drop (suc i) xs)
digits-on n xs i h = rw (drop-cons xs i 0 (inside xs i (omega (arith, digit_low (get_or xs i 0) h))), h)

pub record NumberRead (text : List ℕ) (at value read : ℕ) : Type 0 where
  pub number : value_of value (digits_of (19 - read) (drop (at + read) text)) ≡ number_at text at
  pub stop : at + read + length (digits_of (19 - read) (drop (at + read) text)) ≡ end_of text at
  pub small : value < enough read
  pub fits : at + read < 2 ^ 64

pub read_first : (text : List ℕ) (at : ℕ) → at < 2 ^ 64 → NumberRead text at 0 0
unfolding field_at end_of number_at
read_first text at h = let e : at + 0 ≡ at = omega arith in record { number = rw e refl; stop = rw e refl; small = omega arith; fits = omega arith }

module _ (text : List ℕ) (at value read : ℕ) (s : NumberRead text at value read) where
  at-end : digits_of (19 - read) (drop (at + read) text) ≡ [] → (value ≡ number_at text at) × (at + read ≡ end_of text at)
  at-end e = (ap (value_of value) (sym e) ∙ s.number, omega (arith, ap length e, s.stop))

  module _ (byte : ℕ) (b : byte ≡ get_or text (at + read) 0) where
    -- no digit is left
    pub read_none : digit byte ≡ false → (value ≡ number_at text at) × (at + read ≡ end_of text at)
    read_none h = at-end (digits_off (19 - read) text (at + read) (ap digit (sym b) ∙ h))

    module _ (h : digit byte ≡ true) (k : read < 19) where
      -- one more digit fits
      pub read_fits : (48 ≤ byte) × (at + read < length text) × (10 * value + (byte - 48) < 2 ^ 64)
      read_fits = (
        digit_low byte h,
        inside text (at + read) (omega (arith, digit_low byte h)),
        omega (arith, digit_high byte h, enough-le read 18 (omega arith), s.small),
      )

      next : digits_of (19 - read) (drop (at + read) text) ≡ byte ∷ digits_of (19 - (read + 1)) (drop (at + (read + 1)) text)
      next =
          let p : 19 - read ≡ suc (18 - read) = omega arith in
          let q : 19 - (read + 1) ≡ 18 - read = omega arith in
          let e : at + (read + 1) ≡ suc (at + read) = omega arith in
          rw (p, q, e, b) (digits-on (18 - read) text (at + read) (ap digit (sym b) ∙ h))

      pub read_turn : length text < 2 ^ 64 → NumberRead text at (10 * value + (byte - 48)) (read + 1)
      read_turn long = record {
        number = ap (value_of value) (sym next) ∙ s.number;
        stop = omega (arith, ap length next, s.stop);
        small = rw (add-one read) (omega (arith, digit_high byte h, s.small));
        fits = omega (arith, read_fits.1, long);
      }
