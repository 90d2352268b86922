-- The file form of a frame: the version (1 or 2), then big-endian the length of the rest, B, M, J, types, pairs, joints. The versions differ
-- in their joints.
use Rattle.std.specs.Prelude.{ℕ, zero, suc, ◌+◌, ◌-◌, ◌*◌, Bool, true, not, ◌&&◌, ◌||◌, cond, List, [], ◌∷◌, ◌++◌, map, leb, ltb, eqb, length, get_or, take, drop}
use Rattle.lists.specs.Basics.{join_map}
use Rattle.frame.specs.Frames.{Frame, frame_with, counted, all_sound}
use Rattle.frame.specs.Questions.{Question, question, asked, few_each, types_known, bits}

-- the byte at a place, and the 16-bit and 32-bit numbers that start there
abbrev pub byte : List ℕ → ℕ → ℕ
byte bs i = get_or bs i 0

unfoldable pub half : List ℕ → ℕ → ℕ
half bs i = byte bs i * 256 + byte bs (i + 1)

unfoldable pub word : List ℕ → ℕ → ℕ
word bs i = half bs i * 65536 + half bs (i + 2)

-- B, M and J
abbrev pub count_b : List ℕ → ℕ
count_b bs = half bs 5

abbrev pub count_m : List ℕ → ℕ
count_m bs = half bs 7

abbrev pub count_j : List ℕ → ℕ
count_j bs = half bs 9

-- where the pairs start, and the joints
abbrev pub pairs_at : List ℕ → ℕ
pairs_at bs = 11 + count_b bs

abbrev pub joints_at : List ℕ → ℕ
joints_at bs = pairs_at bs + 4 * count_m bs

-- where a version 1 file has the endpoints of constraint n: manifolds first, then joints; version 2 has its manifolds there
abbrev pub ends_at : List ℕ → ℕ → ℕ
ends_at bs n = cond (ltb n (count_m bs)) (pairs_at bs + 4 * n) (joints_at bs + 5 * (n - count_m bs))

-- n pairs a, b of 16 bits, the first at place s and each `step` bytes after the one before
unfoldable pub pairs_from : List ℕ → ℕ → ℕ → ℕ → List ℕ
pairs_from bs s step zero = []
pairs_from bs s step (suc n) = half bs s ∷ half bs (s + 2) ∷ pairs_from bs (s + step) step n

-- n enabled bytes, of the joints from place s on, version 1
unfoldable pub enabled_from : List ℕ → ℕ → ℕ → List ℕ
enabled_from bs s zero = []
enabled_from bs s (suc n) = byte bs (s + 4) ∷ enabled_from bs (s + 5) n

-- the parts of a file: types, manifold pairs; of version 1 the joint pairs and their enabled bytes
abbrev pub types_in : List ℕ → List ℕ
types_in bs = take (count_b bs) (drop 11 bs)

abbrev pub manifolds_in : List ℕ → List ℕ
manifolds_in bs = pairs_from bs (pairs_at bs) 4 (count_m bs)

abbrev pub joints_in : List ℕ → List ℕ
joints_in bs = pairs_from bs (joints_at bs) 5 (count_j bs)

abbrev pub enabled_in : List ℕ → List ℕ
enabled_in bs = enabled_from bs (joints_at bs) (count_j bs)

-- ---- version 2: a joint is an enabled byte, a count byte of 2 to 4, and as many endpoints of 16 bits

abbrev pub second : List ℕ → Bool
second bs = eqb (byte bs 0) 2

-- the count byte of the entry at place s, and the place behind that entry
abbrev pub count_at : List ℕ → ℕ → ℕ
count_at bs s = byte bs (s + 1)

abbrev pub entry_end : List ℕ → ℕ → ℕ
entry_end bs s = s + (2 + 2 * count_at bs s)

-- the refusal of the entry at s: cut off (4) before its count is met; a wrong count (5) when it is met; cut off (4) behind it
unfoldable pub entry_refusal : List ℕ → ℕ → ℕ
entry_refusal bs s = asked
    (question 4 (leb (s + 2) (length bs))
    ∷ question 5 (counted (count_at bs s))
    ∷ question 4 (leb (entry_end bs s) (length bs))
    ∷ [])

-- the walk over n entries from place s on: the first refusal met; behind the last entry nothing is left over (4)
unfoldable pub entries_refusal : List ℕ → ℕ → ℕ → ℕ
entries_refusal bs s zero = cond (eqb s (length bs)) 0 4
entries_refusal bs s (suc n) = cond (eqb (entry_refusal bs s) 0) (entries_refusal bs (entry_end bs s) n) (entry_refusal bs s)

-- the places of n entries, the first at s
unfoldable pub places_from : List ℕ → ℕ → ℕ → List ℕ
places_from bs s zero = []
places_from bs s (suc n) = s ∷ places_from bs (entry_end bs s) n

-- n numbers of 16 bits from place s on
unfoldable pub halves_from : List ℕ → ℕ → ℕ → List ℕ
halves_from bs s zero = []
halves_from bs s (suc n) = half bs s ∷ halves_from bs (s + 2) n

-- of n entries from place s on: their counts, their endpoints one entry after another, their enabled bytes
abbrev pub counts_from : List ℕ → ℕ → ℕ → List ℕ
counts_from bs s n = map (count_at bs) (places_from bs s n)

abbrev pub ends_from : List ℕ → ℕ → ℕ → List ℕ
ends_from bs s n = join_map (λ at. halves_from bs (at + 2) (count_at bs at)) (places_from bs s n)

abbrev pub live_from : List ℕ → ℕ → ℕ → List ℕ
live_from bs s n = map (byte bs) (places_from bs s n)

-- ---- the joints by the file's version: their counts (on version 1 none, since all are pairs), endpoints and enabled bytes

abbrev pub counts_in : List ℕ → List ℕ
counts_in bs = cond (second bs) (counts_from bs (joints_at bs) (count_j bs)) []

abbrev pub joint_ends_in : List ℕ → List ℕ
joint_ends_in bs = cond (second bs) (ends_from bs (joints_at bs) (count_j bs)) (joints_in bs)

abbrev pub live_in : List ℕ → List ℕ
live_in bs = cond (second bs) (live_from bs (joints_at bs) (count_j bs)) (enabled_in bs)

-- the frame that a file holds
unfoldable pub decode : List ℕ → Frame
decode bs = frame_with (types_in bs) (manifolds_in bs) (joint_ends_in bs) (counts_in bs) (live_in bs)

-- ---- the questions: 1 to 3 of either version; then of version 1 question 4 of the length, of version 2 the walk's answers, 5 before 4; then 5
-- of types and enabled bytes
abbrev pub version_question : List ℕ → Question
version_question bs = question 1 (ltb 0 (length bs) && (eqb (byte bs 0) 1 || second bs))

abbrev pub head_questions : List ℕ → List Question
head_questions bs =
    version_question bs
    ∷ question 2 (leb 11 (length bs) && eqb (word bs 1) (length bs - 5))
    ∷ question 3 (few_each (count_b bs) (count_m bs) (count_j bs))
    ∷ []

abbrev pub walk_refusal : List ℕ → ℕ
walk_refusal bs = entries_refusal bs (joints_at bs) (count_j bs)

abbrev pub joint_questions : List ℕ → List Question
joint_questions bs =
    question 5 (cond (second bs) (not (eqb (walk_refusal bs) 5)) true)
    ∷ question 4 (cond (second bs) (eqb (walk_refusal bs) 0) (eqb (word bs 1) (6 + count_b bs + 4 * count_m bs + 5 * count_j bs)))
    ∷ question 5 (types_known (types_in bs) && bits (live_in bs))
    ∷ []

abbrev pub file_questions : List ℕ → List Question
file_questions bs = head_questions bs ++ joint_questions bs

-- the refusal of a file where no table is lent: questions 1 to 5 and 7
unfoldable pub frame_refusal : List ℕ → ℕ
frame_refusal bs = asked (file_questions bs ++ question 7 (all_sound (decode bs)) ∷ [])
