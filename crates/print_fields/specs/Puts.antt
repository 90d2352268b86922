-- How much room a text needs in a lent buffer.
use Rattle.std.specs.Prelude.{ℕ, ◌+◌, cond, List, [], leb}

-- no head, refusal or turn of two bodies is longer: a head has 31 bytes of words, spaces and newline, and four numbers of at most 20 digits
abbrev pub longest : ℕ
longest = 111

-- the text, if `most` bytes are left from place `at` on in a buffer of this size; else nothing
unfoldable pub if_left : ℕ → ℕ → ℕ → List ℕ → List ℕ
if_left most size at text = cond (leb (at + most) size) text []

-- the text, if `longest` bytes are left
abbrev pub if_room : ℕ → ℕ → List ℕ → List ℕ
if_room size at text = if_left longest size at text
