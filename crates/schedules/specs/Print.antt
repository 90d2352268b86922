-- What the program `turns` prints, as bytes.
use Rattle.std.specs.Prelude.{ℕ, zero, suc, ◌+◌, ◌/◌, ◌%◌, true, cond, List, [], ◌∷◌, ◌++◌, map, ltb, eqb, length}
use Rattle.frame.specs.Frames.{Frame, constraint_at}
use Rattle.frame.specs.Files.{decode}
use Rattle.schedules.specs.Runs.{Report, refused, run_of}

-- a number in decimal digits, at most d of them
unfoldable pub digits : ℕ → ℕ → List ℕ
digits zero n = []
digits (suc d) n = cond (ltb n 10) ((48 + n) ∷ []) (digits d (n / 10) ++ (48 + n % 10) ∷ [])

unfoldable pub decimal : ℕ → List ℕ
decimal n = digits 20 n

-- the fixed words: islands, turns, takes, degree, refused
abbrev pub islands_word : List ℕ
islands_word = 105 ∷ 115 ∷ 108 ∷ 97 ∷ 110 ∷ 100 ∷ 115 ∷ []

abbrev pub turns_word : List ℕ
turns_word = 116 ∷ 117 ∷ 114 ∷ 110 ∷ 115 ∷ []

abbrev pub takes_word : List ℕ
takes_word = 116 ∷ 97 ∷ 107 ∷ 101 ∷ 115 ∷ []

abbrev pub degree_word : List ℕ
degree_word = 100 ∷ 101 ∷ 103 ∷ 114 ∷ 101 ∷ 101 ∷ []

abbrev pub refused_word : List ℕ
refused_word = 114 ∷ 101 ∷ 102 ∷ 117 ∷ 115 ∷ 101 ∷ 100 ∷ []

-- fields parted by one space, and a newline
unfoldable pub spaced : List (List ℕ) → List ℕ
spaced [] = []
spaced (x ∷ []) = x
spaced (x ∷ y ∷ ys) = x ++ 32 ∷ spaced (y ∷ ys)

abbrev pub line : List (List ℕ) → List ℕ
line fields = spaced fields ++ 10 ∷ []

-- the head: the four carried numbers, each after its word, D as degree
unfoldable pub head_of : ℕ → ℕ → ℕ → ℕ → List ℕ
head_of islands turns takes degree =
    line (islands_word ∷ decimal islands ∷ turns_word ∷ decimal turns ∷ takes_word ∷ decimal takes ∷ degree_word ∷ decimal degree ∷ [])

-- a turn: island, group, constraint, and its endpoints
unfoldable pub turn_line : ℕ → ℕ → ℕ → List ℕ → List ℕ
turn_line island group number ends = line (map decimal (island ∷ group ∷ number ∷ ends))

unfoldable pub refusal_line : ℕ → List ℕ
refusal_line n = line (refused_word ∷ decimal n ∷ [])

-- a line for each turn of a turn table
unfoldable pub turn_lines : Frame → List ℕ → List ℕ
turn_lines f [] = []
turn_lines f (i ∷ []) = []
turn_lines f (i ∷ k ∷ []) = []
turn_lines f (i ∷ k ∷ n ∷ r) = turn_line i k n (constraint_at f n).ends ++ turn_lines f r

-- the first line: a run's head, or its refusal
unfoldable pub first_line : Report → List ℕ
first_line r = cond (eqb r.refusal 0) (head_of r.islands r.turns r.takes r.degree) (refusal_line r.refusal)

-- what is printed of: above the longest frame's length refusal 3, before any question; else the run
unfoldable pub answer_to : List ℕ → Report
answer_to bs = cond (ltb 61451 (length bs)) (refused 3) (run_of bs true)

-- the whole print: the first line, then a line a turn
unfoldable pub print_of : List ℕ → List ℕ
print_of bs = first_line (answer_to bs) ++ turn_lines (decode bs) (answer_to bs).table
