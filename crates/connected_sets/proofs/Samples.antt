-- The samples of weighted union (document 02, request 7): each body's root and its set's number of bodies.
use Rattle.std.proofs.Common.{ℕ, ◌≡◌, refl, List, [], ◌∷◌, map}
use Rattle.frame.specs.Frames.{frame_of, bodies, dynamic}
use Rattle.island_sets.specs.Sets.{size_in, winner}
use Rattle.connected_sets.specs.Islands.{edges_of, edges, lowest, heaviest, set_size}

record Sample : Type 0 where
  types : List ℕ
  pairs : List ℕ
  roots : List ℕ
  sizes : List ℕ

abbrev sample : List ℕ → List ℕ → List ℕ → List ℕ → Sample
sample types pairs roots sizes = record { types = types; pairs = pairs; roots = roots; sizes = sizes }

abbrev samples : List Sample
samples =
    sample (2 ∷ 2 ∷ []) (1 ∷ 0 ∷ []) (0 ∷ 0 ∷ []) (2 ∷ 2 ∷ [])
    -- a root above a body of its set; a set joined with itself
    ∷ sample (2 ∷ 2 ∷ 2 ∷ []) (1 ∷ 2 ∷ 0 ∷ 1 ∷ []) (1 ∷ 1 ∷ 1 ∷ []) (3 ∷ 3 ∷ 3 ∷ [])
    ∷ sample (2 ∷ 2 ∷ 2 ∷ []) (1 ∷ 2 ∷ 0 ∷ 2 ∷ 0 ∷ 1 ∷ []) (1 ∷ 1 ∷ 1 ∷ []) (3 ∷ 3 ∷ 3 ∷ [])
    ∷ sample (2 ∷ 2 ∷ 2 ∷ 2 ∷ []) (2 ∷ 3 ∷ 0 ∷ 1 ∷ 0 ∷ 3 ∷ []) (0 ∷ 0 ∷ 0 ∷ 0 ∷ []) (4 ∷ 4 ∷ 4 ∷ 4 ∷ [])
    ∷ sample (2 ∷ 2 ∷ 2 ∷ 2 ∷ 2 ∷ []) (3 ∷ 4 ∷ 2 ∷ 4 ∷ 0 ∷ 1 ∷ 1 ∷ 2 ∷ []) (3 ∷ 3 ∷ 3 ∷ 3 ∷ 3 ∷ []) (5 ∷ 5 ∷ 5 ∷ 5 ∷ 5 ∷ [])
    -- the lower root, not the lower of the bodies asked
    ∷ sample (2 ∷ 2 ∷ 2 ∷ 2 ∷ 2 ∷ 2 ∷ []) (0 ∷ 5 ∷ 1 ∷ 2 ∷ 5 ∷ 2 ∷ []) (0 ∷ 0 ∷ 0 ∷ 3 ∷ 4 ∷ 0 ∷ []) (4 ∷ 4 ∷ 4 ∷ 1 ∷ 1 ∷ 4 ∷ [])
    -- static bodies are sets of their own
    ∷ sample (2 ∷ 2 ∷ 2 ∷ 0 ∷ 2 ∷ 2 ∷ []) (4 ∷ 5 ∷ 1 ∷ 2 ∷ 2 ∷ 4 ∷ 0 ∷ 3 ∷ []) (0 ∷ 1 ∷ 1 ∷ 3 ∷ 1 ∷ 1 ∷ []) (1 ∷ 4 ∷ 4 ∷ 1 ∷ 4 ∷ 4 ∷ [])
    ∷ sample (0 ∷ 2 ∷ 2 ∷ 2 ∷ 2 ∷ []) (3 ∷ 4 ∷ 1 ∷ 2 ∷ 0 ∷ 1 ∷ []) (0 ∷ 1 ∷ 1 ∷ 3 ∷ 3 ∷ []) (1 ∷ 2 ∷ 2 ∷ 2 ∷ 2 ∷ [])
    ∷ []

-- by the definitions
abbrev weighed : Sample → Sample
weighed s =
    let f = frame_of s.types s.pairs [] [] in
    sample s.types s.pairs (map (heaviest f) (bodies f)) (map (set_size f) (bodies f))

pub weights_sampled : map weighed samples ≡ samples
unfolding heaviest set_size lowest edges edges_of dynamic winner size_in
weights_sampled = refl
