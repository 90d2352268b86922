-- The bit of a test: 1 or 0, as a byte and as a number.
use Rattle.std.proofs.Common.{ℕ, zero, suc, ◌≤◌, ◌≡◌, refl, Bool, true, false, ◌&&◌, ◌||◌, cond, arith, bit_and, bit_or, eqb}
use mir.Val.{bool_byte}
use Rattle.lists.specs.Basics.{one}

pub byte_one : (p : Bool) → bool_byte p ≡ one p
byte_one true = refl
byte_one false = refl

pub or-bits : (p q : Bool) → bit_or (one p) (one q) ≡ one (p || q)
or-bits true true = refl
or-bits true false = refl
or-bits false true = refl
or-bits false false = refl

-- a bit x is set if d and f are
pub set_bit : (x f : ℕ) (d : Bool) → x ≤ 1 → f ≤ 1 → bit_or x (bit_and (one d) f) ≡ cond (eqb f 1 && d) 1 x
set_bit zero zero true h l = refl
set_bit zero zero false h l = refl
set_bit zero (suc zero) true h l = refl
set_bit zero (suc zero) false h l = refl
set_bit (suc zero) zero true h l = refl
set_bit (suc zero) zero false h l = refl
set_bit (suc zero) (suc zero) true h l = refl
set_bit (suc zero) (suc zero) false h l = refl
set_bit zero (suc (suc f)) d h l = absurd (omega arith)
set_bit (suc zero) (suc (suc f)) d h l = absurd (omega arith)
set_bit (suc (suc x)) f d h l = absurd (omega arith)

pub one-true : (b : Bool) → eqb (one b) 1 ≡ b
one-true true = refl
one-true false = refl

pub one-le : (b : Bool) → one b ≤ 1
one-le true = omega arith
one-le false = omega arith
