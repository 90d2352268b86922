-- Lines, computed.
use Rattle.std.proofs.Common.{◌≡◌, refl, [], ◌∷◌, Some, None}
use Rattle.lift_line.specs.Lines.{field_at, end_of, number_at, readable, wanted, line_of}

-- "7 12 0 3" and a newline; without the newline; with a second line
pub four-numbers : line_of (55 ∷ 32 ∷ 49 ∷ 50 ∷ 32 ∷ 48 ∷ 32 ∷ 51 ∷ 10 ∷ []) ≡ Some (wanted 7 12 0 3)
unfolding line_of readable number_at end_of field_at
four-numbers = refl

pub no_newline : line_of (55 ∷ 32 ∷ 49 ∷ 50 ∷ 32 ∷ 48 ∷ 32 ∷ 51 ∷ []) ≡ Some (wanted 7 12 0 3)
unfolding line_of readable number_at end_of field_at
no_newline = refl

pub second-line : line_of (55 ∷ 32 ∷ 49 ∷ 50 ∷ 32 ∷ 48 ∷ 32 ∷ 51 ∷ 10 ∷ 120 ∷ []) ≡ Some (wanted 7 12 0 3)
unfolding line_of readable number_at end_of field_at
second-line = refl

-- "7  2 0 3": two spaces; "7 2 0": three numbers; "7 2 0 3 " and "-7 2 0 3": a space at the end, a sign
pub two_spaces : line_of (55 ∷ 32 ∷ 32 ∷ 50 ∷ 32 ∷ 48 ∷ 32 ∷ 51 ∷ 10 ∷ []) ≡ None
unfolding line_of readable number_at end_of field_at
two_spaces = refl

pub three_numbers : line_of (55 ∷ 32 ∷ 50 ∷ 32 ∷ 48 ∷ 10 ∷ []) ≡ None
unfolding line_of readable number_at end_of field_at
three_numbers = refl

pub space_at-end : line_of (55 ∷ 32 ∷ 50 ∷ 32 ∷ 48 ∷ 32 ∷ 51 ∷ 32 ∷ 10 ∷ []) ≡ None
unfolding line_of readable number_at end_of field_at
space_at-end = refl

pub signed : line_of (45 ∷ 55 ∷ 32 ∷ 50 ∷ 32 ∷ 48 ∷ 32 ∷ 51 ∷ 10 ∷ []) ≡ None
unfolding line_of readable number_at end_of field_at
signed = refl

-- the widest seed, and one more
pub widest_seed : line_of (52 ∷ 50 ∷ 57 ∷ 52 ∷ 57 ∷ 54 ∷ 55 ∷ 50 ∷ 57 ∷ 53 ∷ 32 ∷ 48 ∷ 32 ∷ 48 ∷ 32 ∷ 48 ∷ []) ≡ Some (wanted 4294967295 0 0 0)
unfolding line_of readable number_at end_of field_at
widest_seed = refl

pub wide_seed : line_of (52 ∷ 50 ∷ 57 ∷ 52 ∷ 57 ∷ 54 ∷ 55 ∷ 50 ∷ 57 ∷ 54 ∷ 32 ∷ 48 ∷ 32 ∷ 48 ∷ 32 ∷ 48 ∷ []) ≡ None
unfolding line_of readable number_at end_of field_at
wide_seed = refl
