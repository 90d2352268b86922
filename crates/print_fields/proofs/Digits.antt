-- Decimal digits of a machine number: the last digit stands behind the digits of the rest, and there are at most 20.
-- `digits d n` is the same for each d that is enough, that is, n < 10 ^ d.
use Rattle.std.proofs.Common.{ℕ, zero, suc, ◌+◌, ◌*◌, ◌^◌, ◌/◌, ◌%◌, ◌≤◌, ◌<◌, ◌≡◌, sym, ap, ◌∙◌, List, [], ◌∷◌, ◌++◌, arith, ltb, length, length-append, lt-ltb, le-ltb}
use Rattle.std.specs.Fmt as std
use Rattle.std.proofs.lemmas.Fmt.{decimal_by_steps}
use Rattle.lists.proofs.Laws.{by_cases}
use Rattle.schedules.specs.Print.{digits, decimal}

-- the numbers below it have at most d digits
abbrev enough : ℕ → ℕ
enough zero = 1
enough (suc d) = 10 * enough d

-- one digit more does not matter
digits_more : (d n : ℕ) → n < enough (suc d) → digits (suc (suc d)) n ≡ digits (suc d) n
unfolding digits
digits_more zero n h = rw (lt-ltb n 10 (omega arith))
digits_more (suc d) n h =
    by_cases (ltb n 10)
    (λ e. rw e)
    (λ e. rw e (ap (λ (l : List ℕ). l ++ (48 + n % 10) ∷ []) (digits_more d (n / 10) (omega arith))))

digits_last : (d n : ℕ) → 10 ≤ n → digits (suc d) n ≡ digits d (n / 10) ++ (48 + n % 10) ∷ []
unfolding digits
digits_last d n h = rw (le-ltb n 10 h)

pub decimal_last : (n : ℕ) → n < 2 ^ 64 → 10 ≤ n → decimal n ≡ decimal (n / 10) ++ (48 + n % 10) ∷ []
unfolding decimal
decimal_last n h k = digits_last 19 n k ∙ ap (λ (l : List ℕ). l ++ (48 + n % 10) ∷ []) (sym (digits_more 18 (n / 10) (omega arith)))

digits-one : (d n : ℕ) → n < 10 → digits (suc d) n ≡ (48 + n) ∷ []
unfolding digits
digits-one d n h = rw (lt-ltb n 10 h)

pub decimal-one : (n : ℕ) → n < 10 → decimal n ≡ (48 + n) ∷ []
unfolding decimal
decimal-one n h = digits-one 19 n h

digits_some : (d n : ℕ) → 1 ≤ length (digits (suc d) n)
unfolding digits
digits_some d n =
    by_cases (ltb n 10)
    (λ e. rw e (omega arith))
    (λ e. rw e (omega (arith, length-append (digits d (n / 10)) ((48 + n % 10) ∷ []))))

pub decimal_some : (n : ℕ) → 1 ≤ length (decimal n)
unfolding decimal
decimal_some n = digits_some 19 n

digits-few : (d n : ℕ) → length (digits d n) ≤ d
unfolding digits
digits-few zero n = omega arith
digits-few (suc d) n =
    by_cases (ltb n 10)
    (λ e. rw e (omega arith))
    (λ e. rw e (omega (arith, length-append (digits d (n / 10)) ((48 + n % 10) ∷ []), digits-few d (n / 10))))

pub decimal-few : (n : ℕ) → length (decimal n) ≤ 20
unfolding decimal
decimal-few n = digits-few 20 n

-- what the library prints of a number
pub printed_decimal : (n : ℕ) → n < 2 ^ 64 → std.decimal n ≡ decimal n
printed_decimal n h = decimal_by_steps (λ (m : ℕ) (ds : List ℕ). m < 2 ^ 64 → ds ≡ decimal m)
    (λ m k i. sym (decimal-one m k))
    (λ m ds k e i. ap (λ (l : List ℕ). l ++ (48 + m % 10) ∷ []) (e (omega (arith, i))) ∙ sym (decimal_last m i k))
    n h h
