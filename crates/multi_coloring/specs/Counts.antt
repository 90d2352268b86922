-- A plan with counts: the questions of its updates and of its lookup of positions, and how the counts that it remembers are read.
use Rattle.std.specs.Prelude.{ℕ, Bool, ◌&&◌, cond, List, [], ◌∷◌, map, leb, ltb, eqb, length, get_or, take}
use Rattle.lists.specs.Basics.{all}
use Rattle.frame.specs.Frames.{counted, counts_known, end_count, fits}
use Rattle.frame.specs.Questions.{question, asked, bits}
use Rattle.groups.specs.Groups.{counted_parts}

-- a remembered count; outside two to four it is read as two
abbrev pub count_read : ℕ → ℕ
count_read c = cond (counted c) c 2

-- the counts of a plan of n constraints, as they are read from its table
abbrev pub counts_read : ℕ → List ℕ → List ℕ
counts_read n table = map count_read (take n table)

-- an update: questions 3 to 7, where `room` answers 6
unfoldable pub multi_update_refusal : List ℕ → List ℕ → List ℕ → Bool → ℕ
multi_update_refusal flags ends counts room = asked
    (question 3 (leb (length flags) 4096 && leb (length counts) 8192)
    ∷ question 4 (eqb (end_count counts) (length ends))
    ∷ question 5 (bits flags && counts_known counts)
    ∷ question 6 room
    ∷ question 7 (all (fits (length flags)) (counted_parts counts ends))
    ∷ [])

-- the positions of constraint r in a plan of n constraints: questions 3, 6 and 12
unfoldable pub multi_positions_refusal : ℕ → List ℕ → List ℕ → ℕ → ℕ
multi_positions_refusal n counts table r = asked
    (question 3 (leb n 8192)
    ∷ question 6 (leb n (length counts) && leb (end_count (counts_read n counts)) (length table))
    ∷ question 12 (ltb r n)
    ∷ [])

-- they stand constraint after constraint, as the counts are read
abbrev pub positions_in : ℕ → List ℕ → List ℕ → ℕ → List ℕ
positions_in n counts table r = get_or (counted_parts (counts_read n counts) table) r []
