-- The samples of the coloring in the paper's order: the colors, and the constraints left uncolored after each walk.
use Rattle.std.proofs.Common.{ℕ, suc, ◌≡◌, refl, List, [], ◌∷◌, map}
use Rattle.lists.specs.Basics.{range}
use Rattle.groups.specs.Groups.{clash, free_from, free, used_by, color_from, colors_of, group_count}
use Rattle.coloring.specs.Coloring.{uncolored}

record Sample : Type 0 where
  flags : List ℕ
  constraints : List (List ℕ)
  colors : List ℕ
  left : List (List ℕ)

abbrev sample : List ℕ → List (List ℕ) → List ℕ → List (List ℕ) → Sample
sample flags cs colors left = record { flags = flags; constraints = cs; colors = colors; left = left }

abbrev samples : List Sample
samples =
    sample (1 ∷ 1 ∷ 1 ∷ []) ((2 ∷ 1 ∷ []) ∷ (0 ∷ 1 ∷ []) ∷ []) (0 ∷ 1 ∷ []) ((1 ∷ []) ∷ [] ∷ [])
    ∷ sample (1 ∷ 0 ∷ 1 ∷ []) ((0 ∷ 1 ∷ []) ∷ (2 ∷ 1 ∷ []) ∷ []) (0 ∷ 0 ∷ []) ([] ∷ [])
    ∷ sample (1 ∷ 1 ∷ []) ((0 ∷ 1 ∷ []) ∷ (0 ∷ 1 ∷ []) ∷ (0 ∷ 1 ∷ []) ∷ []) (0 ∷ 1 ∷ 2 ∷ []) ((1 ∷ 2 ∷ []) ∷ (2 ∷ []) ∷ [] ∷ [])
    ∷ sample (0 ∷ 0 ∷ []) ((0 ∷ 1 ∷ []) ∷ []) (0 ∷ []) ([] ∷ [])
    ∷ sample (1 ∷ 1 ∷ []) [] [] []
    ∷ sample (1 ∷ 1 ∷ 1 ∷ 1 ∷ []) ((0 ∷ 1 ∷ []) ∷ (1 ∷ 2 ∷ []) ∷ (2 ∷ 3 ∷ []) ∷ (3 ∷ 0 ∷ []) ∷ []) (0 ∷ 1 ∷ 0 ∷ 1 ∷ []) ((1 ∷ 3 ∷ []) ∷ [] ∷ [])
    ∷ sample (1 ∷ 1 ∷ 1 ∷ 1 ∷ 1 ∷ []) ((0 ∷ 1 ∷ []) ∷ (2 ∷ 3 ∷ []) ∷ (1 ∷ 2 ∷ []) ∷ (3 ∷ 4 ∷ []) ∷ (0 ∷ 4 ∷ []) ∷ []) (0 ∷ 0 ∷ 1 ∷ 1 ∷ 2 ∷ []) ((2 ∷ 3 ∷ 4 ∷ []) ∷ (4 ∷ []) ∷ [] ∷ [])
    ∷ sample (1 ∷ 1 ∷ 1 ∷ 0 ∷ []) ((0 ∷ 1 ∷ []) ∷ (0 ∷ 2 ∷ []) ∷ (0 ∷ 3 ∷ []) ∷ (1 ∷ 2 ∷ []) ∷ (1 ∷ 3 ∷ []) ∷ (2 ∷ 3 ∷ []) ∷ []) (0 ∷ 1 ∷ 2 ∷ 2 ∷ 1 ∷ 0 ∷ []) ((1 ∷ 2 ∷ 3 ∷ 4 ∷ []) ∷ (2 ∷ 3 ∷ []) ∷ [] ∷ [])
    ∷ sample (1 ∷ 1 ∷ 1 ∷ 1 ∷ 1 ∷ []) ((0 ∷ 1 ∷ 2 ∷ []) ∷ (2 ∷ 3 ∷ []) ∷ (3 ∷ 4 ∷ []) ∷ (0 ∷ 1 ∷ 3 ∷ 4 ∷ []) ∷ (4 ∷ 0 ∷ []) ∷ []) (0 ∷ 1 ∷ 0 ∷ 2 ∷ 1 ∷ []) ((1 ∷ 3 ∷ 4 ∷ []) ∷ (3 ∷ []) ∷ [] ∷ [])
    ∷ []

-- by the definitions
abbrev walked : Sample → Sample
walked s =
    let colors = colors_of s.flags s.constraints in
    sample s.flags s.constraints colors (map (λ k. uncolored s.flags s.constraints (suc k)) (range (group_count colors)))

pub walks_sampled : map walked samples ≡ samples
unfolding clash free_from free used_by color_from colors_of group_count uncolored
walks_sampled = refl
