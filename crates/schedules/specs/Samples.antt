-- Document 01's ● samples and its printed example, and the samples of requests 6 and 11, as one table.
use Rattle.std.specs.Prelude.{ℕ, cond, List, [], ◌∷◌, ◌++◌, map, eqb, length, replicate}
use Rattle.frame.specs.Frames.{frame_of, flag_of, bodies}
use Rattle.frame.specs.Questions.{pair_count}
use Rattle.connected_sets.specs.Islands.{island_count, body_label, label}
use Rattle.island.specs.Calls.{island_refusal, labels_after}
use Rattle.groups.specs.Groups.{plan_of}
use Rattle.colored_bodies.specs.declared.BodyBinding.{BodyBinding}
use Rattle.colored_bodies.specs.Bindings.{bind_of, take_of}
use Rattle.schedules.specs.Print.{print_of}

-- what a sample asks: an islands call (types, pairs, joints, enabled bytes), a coloring (types, pairs), takes one after another
-- (types, bodies, lists of positions), the print of a file
pub data Ask : Type 0 where
  labels : List ℕ → List ℕ → List ℕ → List ℕ → Ask
  colors positions : List ℕ → List ℕ → Ask
  takes : List ℕ → List ℕ → List (List ℕ) → Ask
  prints : List ℕ → Ask

-- the refusals of takes, each from the binding as the one before left it
abbrev refusals : BodyBinding → List (List ℕ) → List ℕ
refusals b [] = []
refusals b (ps ∷ rest) = (take_of b ps).refusal ∷ refusals (take_of b ps).after rest

-- an islands call on tables of just the right lengths, all 0: its refusal, and what it answers and leaves, by the definitions that `Built`
-- cites: the island count, the bodies' labels and the constraints'
abbrev islands : List ℕ → List ℕ → List ℕ → List ℕ → List ℕ
islands ts ps js es =
    let f = frame_of ts ps js es in
    let k = island_refusal ts ps js es (record { parents = length ts; sizes = length ts; bodies = length ts; manifolds = pair_count ps; joints = pair_count js }) in
    k ∷ cond (eqb k 0) (island_count f) 0
    ∷ labels_after k (map (body_label f) (bodies f)) (replicate (length ts) 0)
    ++ labels_after k (map (label f) f.manifolds) (replicate (pair_count ps) 0)
    ++ labels_after k (map (label f) f.joints) (replicate (pair_count js) 0)

abbrev pub answer : Ask → List ℕ
answer (labels ts ps js es) = islands ts ps js es
answer (colors ts ps) = (plan_of (map flag_of ts) ps).colors
answer (positions ts ps) = (plan_of (map flag_of ts) ps).positions
answer (takes ts bs pss) = refusals (bind_of ts bs) pss
answer (prints bs) = print_of bs

pub record Sample : Type 0 where
  pub ask : Ask
  pub gives : List ℕ

abbrev pub ◌gives◌ : Ask → List ℕ → Sample
◌gives◌ a ns = record { ask = a; gives = ns }

infix 10 ◌gives◌
abbrev pub samples : List Sample
samples =
    -- empty frame: head `islands 0 turns 0 takes 0 degree 0`
    (prints (1 ∷ 0 ∷ 0 ∷ 0 ∷ 6 ∷ 0 ∷ 0 ∷ 0 ∷ 0 ∷ 0 ∷ 0 ∷ [])
    gives 105 ∷ 115 ∷ 108 ∷ 97 ∷ 110 ∷ 100 ∷ 115 ∷ 32 ∷ 48 ∷ 32 ∷ 116 ∷ 117 ∷ 114 ∷ 110 ∷ 115 ∷ 32 ∷ 48 ∷ 32 ∷ 116 ∷ 97 ∷ 107 ∷ 101 ∷ 115 ∷ 32 ∷ 48 ∷ 32 ∷ 100 ∷ 101 ∷ 103 ∷ 114 ∷ 101 ∷ 101 ∷ 32 ∷ 48 ∷ 10 ∷ [])
    -- types 2: body 0 has no island
    ∷ (labels (2 ∷ []) [] [] [] gives 0 ∷ 0 ∷ 65535 ∷ [])
    -- 2,2,2 with (2,1),(0,1): one island; colors 0,1
    ∷ (labels (2 ∷ 2 ∷ 2 ∷ []) (2 ∷ 1 ∷ 0 ∷ 1 ∷ []) [] [] gives 0 ∷ 1 ∷ 0 ∷ 0 ∷ 0 ∷ 0 ∷ 0 ∷ [])
    ∷ (colors (2 ∷ 2 ∷ 2 ∷ []) (2 ∷ 1 ∷ 0 ∷ 1 ∷ []) gives 0 ∷ 1 ∷ [])
    -- 2,0,2 with (0,1),(2,1): islands 0,1; as one list, colors 0,0
    ∷ (labels (2 ∷ 0 ∷ 2 ∷ []) (0 ∷ 1 ∷ 2 ∷ 1 ∷ []) [] [] gives 0 ∷ 2 ∷ 0 ∷ 65535 ∷ 1 ∷ 0 ∷ 1 ∷ [])
    ∷ (colors (2 ∷ 0 ∷ 2 ∷ []) (0 ∷ 1 ∷ 2 ∷ 1 ∷ []) gives 0 ∷ 0 ∷ [])
    -- 2,0,2 with (2,1),(0,1): islands 1,0, numbered by their lowest bodies
    ∷ (labels (2 ∷ 0 ∷ 2 ∷ []) (2 ∷ 1 ∷ 0 ∷ 1 ∷ []) [] [] gives 0 ∷ 2 ∷ 0 ∷ 65535 ∷ 1 ∷ 1 ∷ 0 ∷ [])
    -- 2,1 with (1,0): positions 1,0
    ∷ (positions (2 ∷ 1 ∷ []) (1 ∷ 0 ∷ []) gives 1 ∷ 0 ∷ [])
    -- 0,1 with (0,1): no island; as a coloring, color 0
    ∷ (labels (0 ∷ 1 ∷ []) (0 ∷ 1 ∷ []) [] [] gives 0 ∷ 0 ∷ 65535 ∷ 65535 ∷ 65535 ∷ [])
    ∷ (colors (0 ∷ 1 ∷ []) (0 ∷ 1 ∷ []) gives 0 ∷ [])
    -- 2,2 with joint (0,0): disabled, accepted; enabled, 7: count 0, all labels none
    ∷ (labels (2 ∷ 2 ∷ []) [] (0 ∷ 0 ∷ []) (0 ∷ []) gives 0 ∷ 0 ∷ 65535 ∷ 65535 ∷ 65535 ∷ [])
    ∷ (labels (2 ∷ 2 ∷ []) [] (0 ∷ 0 ∷ []) (1 ∷ []) gives 7 ∷ 0 ∷ 65535 ∷ 65535 ∷ 65535 ∷ [])
    -- 2,2 with (0,1) three times: colors 0,1,2
    ∷ (colors (2 ∷ 2 ∷ []) (0 ∷ 1 ∷ 0 ∷ 1 ∷ 0 ∷ 1 ∷ []) gives 0 ∷ 1 ∷ 2 ∷ [])
    -- places 0,1,2 dynamic: take (1,2), then (0,2) gives 11, then (0,1) gives 10
    ∷ (takes (2 ∷ 2 ∷ 2 ∷ []) (0 ∷ 1 ∷ 2 ∷ []) ((1 ∷ 2 ∷ []) ∷ (0 ∷ 2 ∷ []) ∷ (0 ∷ 1 ∷ []) ∷ []) gives 0 ∷ 11 ∷ 10 ∷ [])
    -- the printed example
    ∷ (prints (1 ∷ 0 ∷ 0 ∷ 0 ∷ 43 ∷ 0 ∷ 6 ∷ 0 ∷ 4 ∷ 0 ∷ 3 ∷ 2 ∷ 2 ∷ 0 ∷ 2 ∷ 2 ∷ 1 ∷ 0 ∷ 0 ∷ 0 ∷ 2 ∷ 0 ∷ 1 ∷ 0 ∷ 0 ∷ 0 ∷ 3 ∷ 0 ∷ 2 ∷ 0 ∷ 2 ∷ 0 ∷ 5 ∷ 0 ∷ 1 ∷ 0 ∷ 2 ∷ 1 ∷ 0 ∷ 0 ∷ 0 ∷ 0 ∷ 0 ∷ 0 ∷ 5 ∷ 0 ∷ 3 ∷ 1 ∷ [])
    gives 105 ∷ 115 ∷ 108 ∷ 97 ∷ 110 ∷ 100 ∷ 115 ∷ 32 ∷ 50 ∷ 32 ∷ 116 ∷ 117 ∷ 114 ∷ 110 ∷ 115 ∷ 32 ∷ 53 ∷ 32 ∷ 116 ∷ 97 ∷ 107 ∷ 101 ∷ 115 ∷ 32 ∷ 54 ∷ 32 ∷ 100 ∷ 101 ∷ 103 ∷ 114 ∷ 101 ∷ 101 ∷ 32 ∷ 50 ∷ 10 ∷ 48 ∷ 32 ∷ 48 ∷ 32 ∷ 48 ∷ 32 ∷ 48 ∷ 32 ∷ 50 ∷ 10 ∷ 48 ∷ 32 ∷ 48 ∷ 32 ∷ 52 ∷ 32 ∷ 49 ∷ 32 ∷ 50 ∷ 10 ∷ 48 ∷ 32 ∷ 49 ∷ 32 ∷ 49 ∷ 32 ∷ 49 ∷ 32 ∷ 48 ∷ 10 ∷ 49 ∷ 32 ∷ 48 ∷ 32 ∷ 50 ∷ 32 ∷ 51 ∷ 32 ∷ 50 ∷ 10 ∷ 49 ∷ 32 ∷ 49 ∷ 32 ∷ 54 ∷ 32 ∷ 53 ∷ 32 ∷ 51 ∷ 10 ∷ [])
    -- no input: `refused 1`
    ∷ (prints [] gives 114 ∷ 101 ∷ 102 ∷ 117 ∷ 115 ∷ 101 ∷ 100 ∷ 32 ∷ 49 ∷ 10 ∷ [])
    -- a number of several digits, body 123: head `islands 1 turns 1 takes 1 degree 1`, then `0 0 0 123 0`
    ∷ (prints (1 ∷ 0 ∷ 0 ∷ 0 ∷ 134 ∷ 0 ∷ 124 ∷ 0 ∷ 1 ∷ 0 ∷ 0 ∷ replicate 123 0 ++ 2 ∷ 0 ∷ 123 ∷ 0 ∷ 0 ∷ [])
    gives 105 ∷ 115 ∷ 108 ∷ 97 ∷ 110 ∷ 100 ∷ 115 ∷ 32 ∷ 49 ∷ 32 ∷ 116 ∷ 117 ∷ 114 ∷ 110 ∷ 115 ∷ 32 ∷ 49 ∷ 32 ∷ 116 ∷ 97 ∷ 107 ∷ 101 ∷ 115 ∷ 32 ∷ 49 ∷ 32 ∷ 100 ∷ 101 ∷ 103 ∷ 114 ∷ 101 ∷ 101 ∷ 32 ∷ 49 ∷ 10 ∷ 48 ∷ 32 ∷ 48 ∷ 32 ∷ 48 ∷ 32 ∷ 49 ∷ 50 ∷ 51 ∷ 32 ∷ 48 ∷ 10 ∷ [])
    -- request 6, type 3, a logged body. 2,3,2 with (0,1),(2,1): two islands on it; as one list, colors 0,1 (with type 1 they were 0,0)
    ∷ (labels (2 ∷ 3 ∷ 2 ∷ []) (0 ∷ 1 ∷ 2 ∷ 1 ∷ []) [] [] gives 0 ∷ 2 ∷ 0 ∷ 65535 ∷ 1 ∷ 0 ∷ 1 ∷ [])
    ∷ (colors (2 ∷ 3 ∷ 2 ∷ []) (0 ∷ 1 ∷ 2 ∷ 1 ∷ []) gives 0 ∷ 1 ∷ [])
    ∷ (colors (2 ∷ 1 ∷ 2 ∷ []) (0 ∷ 1 ∷ 2 ∷ 1 ∷ []) gives 0 ∷ 0 ∷ [])
    -- its run: islands 2 turns 2 takes 4 degree 2, the turns 0 0 0 and 1 0 1
    ∷ (prints (1 ∷ 0 ∷ 0 ∷ 0 ∷ 17 ∷ 0 ∷ 3 ∷ 0 ∷ 2 ∷ 0 ∷ 0 ∷ 2 ∷ 3 ∷ 2 ∷ 0 ∷ 0 ∷ 0 ∷ 1 ∷ 0 ∷ 2 ∷ 0 ∷ 1 ∷ [])
    gives 105 ∷ 115 ∷ 108 ∷ 97 ∷ 110 ∷ 100 ∷ 115 ∷ 32 ∷ 50 ∷ 32 ∷ 116 ∷ 117 ∷ 114 ∷ 110 ∷ 115 ∷ 32 ∷ 50 ∷ 32 ∷ 116 ∷ 97 ∷ 107 ∷ 101 ∷ 115 ∷ 32 ∷ 52 ∷ 32 ∷ 100 ∷ 101 ∷ 103 ∷ 114 ∷ 101 ∷ 101 ∷ 32 ∷ 50 ∷ 10 ∷ 48 ∷ 32 ∷ 48 ∷ 32 ∷ 48 ∷ 32 ∷ 48 ∷ 32 ∷ 49 ∷ 10 ∷ 49 ∷ 32 ∷ 48 ∷ 32 ∷ 49 ∷ 32 ∷ 50 ∷ 32 ∷ 49 ∷ 10 ∷ [])
    -- 2,3 with (0,1) twice: one island, colors 0,1
    ∷ (labels (2 ∷ 3 ∷ []) (0 ∷ 1 ∷ 0 ∷ 1 ∷ []) [] [] gives 0 ∷ 1 ∷ 0 ∷ 65535 ∷ 0 ∷ 0 ∷ [])
    ∷ (colors (2 ∷ 3 ∷ []) (0 ∷ 1 ∷ 0 ∷ 1 ∷ []) gives 0 ∷ 1 ∷ [])
    -- 3,0 and 3,3 with (0,1): no island; as a coloring, color 0
    ∷ (labels (3 ∷ 0 ∷ []) (0 ∷ 1 ∷ []) [] [] gives 0 ∷ 0 ∷ 65535 ∷ 65535 ∷ 65535 ∷ [])
    ∷ (labels (3 ∷ 3 ∷ []) (0 ∷ 1 ∷ []) [] [] gives 0 ∷ 0 ∷ 65535 ∷ 65535 ∷ 65535 ∷ [])
    ∷ (colors (3 ∷ 0 ∷ []) (0 ∷ 1 ∷ []) gives 0 ∷ [])
    ∷ (colors (3 ∷ 3 ∷ []) (0 ∷ 1 ∷ []) gives 0 ∷ [])
    -- 2,3,0 with (0,1),(1,2),(1,2),(1,2): islands 1 turns 1 takes 2 degree 1; what has no island counts nowhere
    ∷ (prints (1 ∷ 0 ∷ 0 ∷ 0 ∷ 25 ∷ 0 ∷ 3 ∷ 0 ∷ 4 ∷ 0 ∷ 0 ∷ 2 ∷ 3 ∷ 0 ∷ 0 ∷ 0 ∷ 0 ∷ 1 ∷ 0 ∷ 1 ∷ 0 ∷ 2 ∷ 0 ∷ 1 ∷ 0 ∷ 2 ∷ 0 ∷ 1 ∷ 0 ∷ 2 ∷ [])
    gives 105 ∷ 115 ∷ 108 ∷ 97 ∷ 110 ∷ 100 ∷ 115 ∷ 32 ∷ 49 ∷ 32 ∷ 116 ∷ 117 ∷ 114 ∷ 110 ∷ 115 ∷ 32 ∷ 49 ∷ 32 ∷ 116 ∷ 97 ∷ 107 ∷ 101 ∷ 115 ∷ 32 ∷ 50 ∷ 32 ∷ 100 ∷ 101 ∷ 103 ∷ 114 ∷ 101 ∷ 101 ∷ 32 ∷ 49 ∷ 10 ∷ 48 ∷ 32 ∷ 48 ∷ 32 ∷ 48 ∷ 32 ∷ 48 ∷ 32 ∷ 49 ∷ 10 ∷ [])
    -- 2,2,3 with (0,2),(1,2),(0,1): one island, colors 0,1,2; without (0,1) two islands
    ∷ (labels (2 ∷ 2 ∷ 3 ∷ []) (0 ∷ 2 ∷ 1 ∷ 2 ∷ 0 ∷ 1 ∷ []) [] [] gives 0 ∷ 1 ∷ 0 ∷ 0 ∷ 65535 ∷ 0 ∷ 0 ∷ 0 ∷ [])
    ∷ (colors (2 ∷ 2 ∷ 3 ∷ []) (0 ∷ 2 ∷ 1 ∷ 2 ∷ 0 ∷ 1 ∷ []) gives 0 ∷ 1 ∷ 2 ∷ [])
    ∷ (labels (2 ∷ 2 ∷ 3 ∷ []) (0 ∷ 2 ∷ 1 ∷ 2 ∷ []) [] [] gives 0 ∷ 2 ∷ 0 ∷ 1 ∷ 65535 ∷ 0 ∷ 1 ∷ [])
    -- 3,2,3,2 with (0,1),(2,1),(2,3),(0,3),(1,3): colors 0,1,0,1,2
    ∷ (colors (3 ∷ 2 ∷ 3 ∷ 2 ∷ []) (0 ∷ 1 ∷ 2 ∷ 1 ∷ 2 ∷ 3 ∷ 0 ∷ 3 ∷ 1 ∷ 3 ∷ []) gives 0 ∷ 1 ∷ 0 ∷ 1 ∷ 2 ∷ [])
    -- its run: islands 1 turns 5 takes 10 degree 3
    ∷ (prints (1 ∷ 0 ∷ 0 ∷ 0 ∷ 30 ∷ 0 ∷ 4 ∷ 0 ∷ 5 ∷ 0 ∷ 0 ∷ 3 ∷ 2 ∷ 3 ∷ 2 ∷ 0 ∷ 0 ∷ 0 ∷ 1 ∷ 0 ∷ 2 ∷ 0 ∷ 1 ∷ 0 ∷ 2 ∷ 0 ∷ 3 ∷ 0 ∷ 0 ∷ 0 ∷ 3 ∷ 0 ∷ 1 ∷ 0 ∷ 3 ∷ [])
    gives 105 ∷ 115 ∷ 108 ∷ 97 ∷ 110 ∷ 100 ∷ 115 ∷ 32 ∷ 49 ∷ 32 ∷ 116 ∷ 117 ∷ 114 ∷ 110 ∷ 115 ∷ 32 ∷ 53 ∷ 32 ∷ 116 ∷ 97 ∷ 107 ∷ 101 ∷ 115 ∷ 32 ∷ 49 ∷ 48 ∷ 32 ∷ 100 ∷ 101 ∷ 103 ∷ 114 ∷ 101 ∷ 101 ∷ 32 ∷ 51 ∷ 10 ∷ 48 ∷ 32 ∷ 48 ∷ 32 ∷ 48 ∷ 32 ∷ 48 ∷ 32 ∷ 49 ∷ 10 ∷ 48 ∷ 32 ∷ 48 ∷ 32 ∷ 50 ∷ 32 ∷ 50 ∷ 32 ∷ 51 ∷ 10 ∷ 48 ∷ 32 ∷ 49 ∷ 32 ∷ 49 ∷ 32 ∷ 50 ∷ 32 ∷ 49 ∷ 10 ∷ 48 ∷ 32 ∷ 49 ∷ 32 ∷ 51 ∷ 32 ∷ 48 ∷ 32 ∷ 51 ∷ 10 ∷ 48 ∷ 32 ∷ 50 ∷ 32 ∷ 52 ∷ 32 ∷ 49 ∷ 32 ∷ 51 ∷ 10 ∷ [])
    -- 2,4 with (0,1): refused 5, the tables kept
    ∷ (labels (2 ∷ 4 ∷ []) (0 ∷ 1 ∷ []) [] [] gives 5 ∷ 0 ∷ 0 ∷ 0 ∷ 0 ∷ [])
    -- places 0 to 3 of types 2,3,1,3: take (1,2) and (3,2); (0,1) gives 11, (1,3) gives 10
    ∷ (takes (2 ∷ 3 ∷ 1 ∷ 3 ∷ []) (0 ∷ 1 ∷ 2 ∷ 3 ∷ []) ((1 ∷ 2 ∷ []) ∷ (3 ∷ 2 ∷ []) ∷ (0 ∷ 1 ∷ []) ∷ (1 ∷ 3 ∷ []) ∷ []) gives 0 ∷ 0 ∷ 11 ∷ 10 ∷ [])
    -- six dynamic bodies in a chain, each on the logged body 6: islands 1 turns 11 takes 22 degree 6, in 7 groups, which the degree of dynamic bodies, 3, would not allow
    ∷ (prints (1 ∷ 0 ∷ 0 ∷ 0 ∷ 57 ∷ 0 ∷ 7 ∷ 0 ∷ 11 ∷ 0 ∷ 0 ∷ 2 ∷ 2 ∷ 2 ∷ 2 ∷ 2 ∷ 2 ∷ 3 ∷ 0 ∷ 0 ∷ 0 ∷ 1 ∷ 0 ∷ 1 ∷ 0 ∷ 2 ∷ 0 ∷ 2 ∷ 0 ∷ 3 ∷ 0 ∷ 3 ∷ 0 ∷ 4 ∷ 0 ∷ 4 ∷ 0 ∷ 5 ∷ 0 ∷ 0 ∷ 0 ∷ 6 ∷ 0 ∷ 1 ∷ 0 ∷ 6 ∷ 0 ∷ 2 ∷ 0 ∷ 6 ∷ 0 ∷ 3 ∷ 0 ∷ 6 ∷ 0 ∷ 4 ∷ 0 ∷ 6 ∷ 0 ∷ 5 ∷ 0 ∷ 6 ∷ [])
    gives 105 ∷ 115 ∷ 108 ∷ 97 ∷ 110 ∷ 100 ∷ 115 ∷ 32 ∷ 49 ∷ 32 ∷ 116 ∷ 117 ∷ 114 ∷ 110 ∷ 115 ∷ 32 ∷ 49 ∷ 49 ∷ 32 ∷ 116 ∷ 97 ∷ 107 ∷ 101 ∷ 115 ∷ 32 ∷ 50 ∷ 50 ∷ 32 ∷ 100 ∷ 101 ∷ 103 ∷ 114 ∷ 101 ∷ 101 ∷ 32 ∷ 54 ∷ 10 ∷ 48 ∷ 32 ∷ 48 ∷ 32 ∷ 48 ∷ 32 ∷ 48 ∷ 32 ∷ 49 ∷ 10 ∷ 48 ∷ 32 ∷ 48 ∷ 32 ∷ 50 ∷ 32 ∷ 50 ∷ 32 ∷ 51 ∷ 10 ∷ 48 ∷ 32 ∷ 48 ∷ 32 ∷ 52 ∷ 32 ∷ 52 ∷ 32 ∷ 53 ∷ 10 ∷ 48 ∷ 32 ∷ 49 ∷ 32 ∷ 49 ∷ 32 ∷ 49 ∷ 32 ∷ 50 ∷ 10 ∷ 48 ∷ 32 ∷ 49 ∷ 32 ∷ 51 ∷ 32 ∷ 51 ∷ 32 ∷ 52 ∷ 10 ∷ 48 ∷ 32 ∷ 49 ∷ 32 ∷ 53 ∷ 32 ∷ 48 ∷ 32 ∷ 54 ∷ 10 ∷ 48 ∷ 32 ∷ 50 ∷ 32 ∷ 54 ∷ 32 ∷ 49 ∷ 32 ∷ 54 ∷ 10 ∷ 48 ∷ 32 ∷ 51 ∷ 32 ∷ 55 ∷ 32 ∷ 50 ∷ 32 ∷ 54 ∷ 10 ∷ 48 ∷ 32 ∷ 52 ∷ 32 ∷ 56 ∷ 32 ∷ 51 ∷ 32 ∷ 54 ∷ 10 ∷ 48 ∷ 32 ∷ 53 ∷ 32 ∷ 57 ∷ 32 ∷ 52 ∷ 32 ∷ 54 ∷ 10 ∷ 48 ∷ 32 ∷ 54 ∷ 32 ∷ 49 ∷ 48 ∷ 32 ∷ 53 ∷ 32 ∷ 54 ∷ 10 ∷ [])
    -- request 11, version 2: joints of two to four bodies
    -- 0,2,3,2 with joint (0,1,2,3): one turn, with all four endpoints
    ∷ (prints (2 ∷ 0 ∷ 0 ∷ 0 ∷ 20 ∷ 0 ∷ 4 ∷ 0 ∷ 0 ∷ 0 ∷ 1 ∷ 0 ∷ 2 ∷ 3 ∷ 2 ∷ 1 ∷ 4 ∷ 0 ∷ 0 ∷ 0 ∷ 1 ∷ 0 ∷ 2 ∷ 0 ∷ 3 ∷ [])
    gives 105 ∷ 115 ∷ 108 ∷ 97 ∷ 110 ∷ 100 ∷ 115 ∷ 32 ∷ 49 ∷ 32 ∷ 116 ∷ 117 ∷ 114 ∷ 110 ∷ 115 ∷ 32 ∷ 49 ∷ 32 ∷ 116 ∷ 97 ∷ 107 ∷ 101 ∷ 115 ∷ 32 ∷ 51 ∷ 32 ∷ 100 ∷ 101 ∷ 103 ∷ 114 ∷ 101 ∷ 101 ∷ 32 ∷ 49 ∷ 10 ∷ 48 ∷ 32 ∷ 48 ∷ 32 ∷ 48 ∷ 32 ∷ 48 ∷ 32 ∷ 49 ∷ 32 ∷ 50 ∷ 32 ∷ 51 ∷ 10 ∷ [])
    -- 2,2,3,2,0,2 with (0,2),(3,4), joints (3,2,5), (1,0,4), (9,9) disabled and (4,5,1,2)
    ∷ (prints (2 ∷ 0 ∷ 0 ∷ 0 ∷ 52 ∷ 0 ∷ 6 ∷ 0 ∷ 2 ∷ 0 ∷ 4 ∷ 2 ∷ 2 ∷ 3 ∷ 2 ∷ 0 ∷ 2 ∷ 0 ∷ 0 ∷ 0 ∷ 2 ∷ 0 ∷ 3 ∷ 0 ∷ 4 ∷ 1 ∷ 3 ∷ 0 ∷ 3 ∷ 0 ∷ 2 ∷ 0 ∷ 5 ∷ 1 ∷ 3 ∷ 0 ∷ 1 ∷ 0 ∷ 0 ∷ 0 ∷ 4 ∷ 0 ∷ 2 ∷ 0 ∷ 9 ∷ 0 ∷ 9 ∷ 1 ∷ 4 ∷ 0 ∷ 4 ∷ 0 ∷ 5 ∷ 0 ∷ 1 ∷ 0 ∷ 2 ∷ [])
    gives 105 ∷ 115 ∷ 108 ∷ 97 ∷ 110 ∷ 100 ∷ 115 ∷ 32 ∷ 49 ∷ 32 ∷ 116 ∷ 117 ∷ 114 ∷ 110 ∷ 115 ∷ 32 ∷ 53 ∷ 32 ∷ 116 ∷ 97 ∷ 107 ∷ 101 ∷ 115 ∷ 32 ∷ 49 ∷ 49 ∷ 32 ∷ 100 ∷ 101 ∷ 103 ∷ 114 ∷ 101 ∷ 101 ∷ 32 ∷ 51 ∷ 10 ∷ 48 ∷ 32 ∷ 48 ∷ 32 ∷ 48 ∷ 32 ∷ 48 ∷ 32 ∷ 50 ∷ 10 ∷ 48 ∷ 32 ∷ 48 ∷ 32 ∷ 49 ∷ 32 ∷ 51 ∷ 32 ∷ 52 ∷ 10 ∷ 48 ∷ 32 ∷ 49 ∷ 32 ∷ 50 ∷ 32 ∷ 51 ∷ 32 ∷ 50 ∷ 32 ∷ 53 ∷ 10 ∷ 48 ∷ 32 ∷ 49 ∷ 32 ∷ 51 ∷ 32 ∷ 49 ∷ 32 ∷ 48 ∷ 32 ∷ 52 ∷ 10 ∷ 48 ∷ 32 ∷ 50 ∷ 32 ∷ 53 ∷ 32 ∷ 52 ∷ 32 ∷ 53 ∷ 32 ∷ 49 ∷ 32 ∷ 50 ∷ 10 ∷ [])
    -- 2,2,2 with joint (0,1,0): enabled, 7; disabled, no turn
    ∷ (prints (2 ∷ 0 ∷ 0 ∷ 0 ∷ 17 ∷ 0 ∷ 3 ∷ 0 ∷ 0 ∷ 0 ∷ 1 ∷ 2 ∷ 2 ∷ 2 ∷ 1 ∷ 3 ∷ 0 ∷ 0 ∷ 0 ∷ 1 ∷ 0 ∷ 0 ∷ [])
    gives 114 ∷ 101 ∷ 102 ∷ 117 ∷ 115 ∷ 101 ∷ 100 ∷ 32 ∷ 55 ∷ 10 ∷ [])
    ∷ (prints (2 ∷ 0 ∷ 0 ∷ 0 ∷ 17 ∷ 0 ∷ 3 ∷ 0 ∷ 0 ∷ 0 ∷ 1 ∷ 2 ∷ 2 ∷ 2 ∷ 0 ∷ 3 ∷ 0 ∷ 0 ∷ 0 ∷ 1 ∷ 0 ∷ 0 ∷ [])
    gives 105 ∷ 115 ∷ 108 ∷ 97 ∷ 110 ∷ 100 ∷ 115 ∷ 32 ∷ 48 ∷ 32 ∷ 116 ∷ 117 ∷ 114 ∷ 110 ∷ 115 ∷ 32 ∷ 48 ∷ 32 ∷ 116 ∷ 97 ∷ 107 ∷ 101 ∷ 115 ∷ 32 ∷ 48 ∷ 32 ∷ 100 ∷ 101 ∷ 103 ∷ 114 ∷ 101 ∷ 101 ∷ 32 ∷ 48 ∷ 10 ∷ [])
    -- 2,0,1,2,2 with (3,4) and joint (0,1,2,3): it connects 0 and 3 over two bodies that are not dynamic
    ∷ (prints (2 ∷ 0 ∷ 0 ∷ 0 ∷ 25 ∷ 0 ∷ 5 ∷ 0 ∷ 1 ∷ 0 ∷ 1 ∷ 2 ∷ 0 ∷ 1 ∷ 2 ∷ 2 ∷ 0 ∷ 3 ∷ 0 ∷ 4 ∷ 1 ∷ 4 ∷ 0 ∷ 0 ∷ 0 ∷ 1 ∷ 0 ∷ 2 ∷ 0 ∷ 3 ∷ [])
    gives 105 ∷ 115 ∷ 108 ∷ 97 ∷ 110 ∷ 100 ∷ 115 ∷ 32 ∷ 49 ∷ 32 ∷ 116 ∷ 117 ∷ 114 ∷ 110 ∷ 115 ∷ 32 ∷ 50 ∷ 32 ∷ 116 ∷ 97 ∷ 107 ∷ 101 ∷ 115 ∷ 32 ∷ 52 ∷ 32 ∷ 100 ∷ 101 ∷ 103 ∷ 114 ∷ 101 ∷ 101 ∷ 32 ∷ 50 ∷ 10 ∷ 48 ∷ 32 ∷ 48 ∷ 32 ∷ 48 ∷ 32 ∷ 51 ∷ 32 ∷ 52 ∷ 10 ∷ 48 ∷ 32 ∷ 49 ∷ 32 ∷ 49 ∷ 32 ∷ 48 ∷ 32 ∷ 49 ∷ 32 ∷ 50 ∷ 32 ∷ 51 ∷ 10 ∷ [])
    -- ten bodies, five joints of four, each two of which share a body: degree 2, and 4 × 2 - 3 groups
    ∷ (prints (2 ∷ 0 ∷ 0 ∷ 0 ∷ 66 ∷ 0 ∷ 10 ∷ 0 ∷ 0 ∷ 0 ∷ 5 ∷ 2 ∷ 2 ∷ 2 ∷ 2 ∷ 2 ∷ 2 ∷ 2 ∷ 2 ∷ 2 ∷ 2 ∷ 1 ∷ 4 ∷ 0 ∷ 0 ∷ 0 ∷ 1 ∷ 0 ∷ 2 ∷ 0 ∷ 3 ∷ 1 ∷ 4 ∷ 0 ∷ 0 ∷ 0 ∷ 4 ∷ 0 ∷ 5 ∷ 0 ∷ 6 ∷ 1 ∷ 4 ∷ 0 ∷ 1 ∷ 0 ∷ 4 ∷ 0 ∷ 7 ∷ 0 ∷ 8 ∷ 1 ∷ 4 ∷ 0 ∷ 2 ∷ 0 ∷ 5 ∷ 0 ∷ 7 ∷ 0 ∷ 9 ∷ 1 ∷ 4 ∷ 0 ∷ 3 ∷ 0 ∷ 6 ∷ 0 ∷ 8 ∷ 0 ∷ 9 ∷ [])
    gives 105 ∷ 115 ∷ 108 ∷ 97 ∷ 110 ∷ 100 ∷ 115 ∷ 32 ∷ 49 ∷ 32 ∷ 116 ∷ 117 ∷ 114 ∷ 110 ∷ 115 ∷ 32 ∷ 53 ∷ 32 ∷ 116 ∷ 97 ∷ 107 ∷ 101 ∷ 115 ∷ 32 ∷ 50 ∷ 48 ∷ 32 ∷ 100 ∷ 101 ∷ 103 ∷ 114 ∷ 101 ∷ 101 ∷ 32 ∷ 50 ∷ 10 ∷ 48 ∷ 32 ∷ 48 ∷ 32 ∷ 48 ∷ 32 ∷ 48 ∷ 32 ∷ 49 ∷ 32 ∷ 50 ∷ 32 ∷ 51 ∷ 10 ∷ 48 ∷ 32 ∷ 49 ∷ 32 ∷ 49 ∷ 32 ∷ 48 ∷ 32 ∷ 52 ∷ 32 ∷ 53 ∷ 32 ∷ 54 ∷ 10 ∷ 48 ∷ 32 ∷ 50 ∷ 32 ∷ 50 ∷ 32 ∷ 49 ∷ 32 ∷ 52 ∷ 32 ∷ 55 ∷ 32 ∷ 56 ∷ 10 ∷ 48 ∷ 32 ∷ 51 ∷ 32 ∷ 51 ∷ 32 ∷ 50 ∷ 32 ∷ 53 ∷ 32 ∷ 55 ∷ 32 ∷ 57 ∷ 10 ∷ 48 ∷ 32 ∷ 52 ∷ 32 ∷ 52 ∷ 32 ∷ 51 ∷ 32 ∷ 54 ∷ 32 ∷ 56 ∷ 32 ∷ 57 ∷ 10 ∷ [])
    -- 2,2,2 with (0,1), joints (0,1,2) and (1,2)
    ∷ (prints (2 ∷ 0 ∷ 0 ∷ 0 ∷ 27 ∷ 0 ∷ 3 ∷ 0 ∷ 1 ∷ 0 ∷ 2 ∷ 2 ∷ 2 ∷ 2 ∷ 0 ∷ 0 ∷ 0 ∷ 1 ∷ 1 ∷ 3 ∷ 0 ∷ 0 ∷ 0 ∷ 1 ∷ 0 ∷ 2 ∷ 1 ∷ 2 ∷ 0 ∷ 1 ∷ 0 ∷ 2 ∷ [])
    gives 105 ∷ 115 ∷ 108 ∷ 97 ∷ 110 ∷ 100 ∷ 115 ∷ 32 ∷ 49 ∷ 32 ∷ 116 ∷ 117 ∷ 114 ∷ 110 ∷ 115 ∷ 32 ∷ 51 ∷ 32 ∷ 116 ∷ 97 ∷ 107 ∷ 101 ∷ 115 ∷ 32 ∷ 55 ∷ 32 ∷ 100 ∷ 101 ∷ 103 ∷ 114 ∷ 101 ∷ 101 ∷ 32 ∷ 51 ∷ 10 ∷ 48 ∷ 32 ∷ 48 ∷ 32 ∷ 48 ∷ 32 ∷ 48 ∷ 32 ∷ 49 ∷ 10 ∷ 48 ∷ 32 ∷ 49 ∷ 32 ∷ 49 ∷ 32 ∷ 48 ∷ 32 ∷ 49 ∷ 32 ∷ 50 ∷ 10 ∷ 48 ∷ 32 ∷ 50 ∷ 32 ∷ 50 ∷ 32 ∷ 49 ∷ 32 ∷ 50 ∷ 10 ∷ [])
    -- a byte too many, or a last byte cut off: 4
    ∷ (prints (2 ∷ 0 ∷ 0 ∷ 0 ∷ 28 ∷ 0 ∷ 3 ∷ 0 ∷ 1 ∷ 0 ∷ 2 ∷ 2 ∷ 2 ∷ 2 ∷ 0 ∷ 0 ∷ 0 ∷ 1 ∷ 1 ∷ 3 ∷ 0 ∷ 0 ∷ 0 ∷ 1 ∷ 0 ∷ 2 ∷ 1 ∷ 2 ∷ 0 ∷ 1 ∷ 0 ∷ 2 ∷ 0 ∷ [])
    gives 114 ∷ 101 ∷ 102 ∷ 117 ∷ 115 ∷ 101 ∷ 100 ∷ 32 ∷ 52 ∷ 10 ∷ [])
    ∷ (prints (2 ∷ 0 ∷ 0 ∷ 0 ∷ 26 ∷ 0 ∷ 3 ∷ 0 ∷ 1 ∷ 0 ∷ 2 ∷ 2 ∷ 2 ∷ 2 ∷ 0 ∷ 0 ∷ 0 ∷ 1 ∷ 1 ∷ 3 ∷ 0 ∷ 0 ∷ 0 ∷ 1 ∷ 0 ∷ 2 ∷ 1 ∷ 2 ∷ 0 ∷ 1 ∷ 0 ∷ [])
    gives 114 ∷ 101 ∷ 102 ∷ 117 ∷ 115 ∷ 101 ∷ 100 ∷ 32 ∷ 52 ∷ 10 ∷ [])
    -- the second count is 1, and its endpoints are cut off: 5; its count is cut off: 4
    ∷ (prints (2 ∷ 0 ∷ 0 ∷ 0 ∷ 23 ∷ 0 ∷ 3 ∷ 0 ∷ 1 ∷ 0 ∷ 2 ∷ 2 ∷ 2 ∷ 2 ∷ 0 ∷ 0 ∷ 0 ∷ 1 ∷ 1 ∷ 3 ∷ 0 ∷ 0 ∷ 0 ∷ 1 ∷ 0 ∷ 2 ∷ 1 ∷ 1 ∷ [])
    gives 114 ∷ 101 ∷ 102 ∷ 117 ∷ 115 ∷ 101 ∷ 100 ∷ 32 ∷ 53 ∷ 10 ∷ [])
    ∷ (prints (2 ∷ 0 ∷ 0 ∷ 0 ∷ 22 ∷ 0 ∷ 3 ∷ 0 ∷ 1 ∷ 0 ∷ 2 ∷ 2 ∷ 2 ∷ 2 ∷ 0 ∷ 0 ∷ 0 ∷ 1 ∷ 1 ∷ 3 ∷ 0 ∷ 0 ∷ 0 ∷ 1 ∷ 0 ∷ 2 ∷ 1 ∷ [])
    gives 114 ∷ 101 ∷ 102 ∷ 117 ∷ 115 ∷ 101 ∷ 100 ∷ 32 ∷ 52 ∷ 10 ∷ [])
    -- the first count is 4, and the second is then read two bytes later, as 1: 5
    ∷ (prints (2 ∷ 0 ∷ 0 ∷ 0 ∷ 27 ∷ 0 ∷ 3 ∷ 0 ∷ 1 ∷ 0 ∷ 2 ∷ 2 ∷ 2 ∷ 2 ∷ 0 ∷ 0 ∷ 0 ∷ 1 ∷ 1 ∷ 4 ∷ 0 ∷ 0 ∷ 0 ∷ 1 ∷ 0 ∷ 2 ∷ 1 ∷ 2 ∷ 0 ∷ 1 ∷ 0 ∷ 2 ∷ [])
    gives 114 ∷ 101 ∷ 102 ∷ 117 ∷ 115 ∷ 101 ∷ 100 ∷ 32 ∷ 53 ∷ 10 ∷ [])
    -- enabled byte 2: 5; and a byte too many: 4
    ∷ (prints (2 ∷ 0 ∷ 0 ∷ 0 ∷ 27 ∷ 0 ∷ 3 ∷ 0 ∷ 1 ∷ 0 ∷ 2 ∷ 2 ∷ 2 ∷ 2 ∷ 0 ∷ 0 ∷ 0 ∷ 1 ∷ 2 ∷ 3 ∷ 0 ∷ 0 ∷ 0 ∷ 1 ∷ 0 ∷ 2 ∷ 1 ∷ 2 ∷ 0 ∷ 1 ∷ 0 ∷ 2 ∷ [])
    gives 114 ∷ 101 ∷ 102 ∷ 117 ∷ 115 ∷ 101 ∷ 100 ∷ 32 ∷ 53 ∷ 10 ∷ [])
    ∷ (prints (2 ∷ 0 ∷ 0 ∷ 0 ∷ 28 ∷ 0 ∷ 3 ∷ 0 ∷ 1 ∷ 0 ∷ 2 ∷ 2 ∷ 2 ∷ 2 ∷ 0 ∷ 0 ∷ 0 ∷ 1 ∷ 2 ∷ 3 ∷ 0 ∷ 0 ∷ 0 ∷ 1 ∷ 0 ∷ 2 ∷ 1 ∷ 2 ∷ 0 ∷ 1 ∷ 0 ∷ 2 ∷ 0 ∷ [])
    gives 114 ∷ 101 ∷ 102 ∷ 117 ∷ 115 ∷ 101 ∷ 100 ∷ 32 ∷ 52 ∷ 10 ∷ [])
    -- version 3: 1
    ∷ (prints (3 ∷ 0 ∷ 0 ∷ 0 ∷ 27 ∷ 0 ∷ 3 ∷ 0 ∷ 1 ∷ 0 ∷ 2 ∷ 2 ∷ 2 ∷ 2 ∷ 0 ∷ 0 ∷ 0 ∷ 1 ∷ 1 ∷ 3 ∷ 0 ∷ 0 ∷ 0 ∷ 1 ∷ 0 ∷ 2 ∷ 1 ∷ 2 ∷ 0 ∷ 1 ∷ 0 ∷ 2 ∷ [])
    gives 114 ∷ 101 ∷ 102 ∷ 117 ∷ 115 ∷ 101 ∷ 100 ∷ 32 ∷ 49 ∷ 10 ∷ [])
    -- places 0 to 4 of types 2,2,0,3,2: one position or five, 5; two alike, or one past the places, 9; (3,2,0) is taken; then (1,2,0) gives 10
    -- and (4,3,1) gives 11
    ∷ (takes (2 ∷ 2 ∷ 0 ∷ 3 ∷ 2 ∷ []) (0 ∷ 1 ∷ 2 ∷ 3 ∷ 4 ∷ []) ((4 ∷ []) ∷ (0 ∷ 1 ∷ 2 ∷ 3 ∷ 4 ∷ []) ∷ (4 ∷ 2 ∷ 4 ∷ []) ∷ (1 ∷ 5 ∷ []) ∷ (3 ∷ 2 ∷ 0 ∷ []) ∷ (1 ∷ 2 ∷ 0 ∷ []) ∷ (4 ∷ 3 ∷ 1 ∷ []) ∷ []) gives 5 ∷ 5 ∷ 9 ∷ 9 ∷ 0 ∷ 10 ∷ 11 ∷ [])
    ∷ []
