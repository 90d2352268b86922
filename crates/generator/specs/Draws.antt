-- Test lifts from a number: the states from a seed on, the draws, and the file that they give.
use Rattle.std.specs.Prelude.{ℕ, zero, suc, ◌+◌, ◌-◌, ◌*◌, ◌/◌, ◌%◌, List, [], ◌∷◌, map}
use Rattle.lists.specs.Basics.{join_map, range}
use Rattle.frame_file.specs.Written.{file_of}

-- the state after s
unfoldable pub next_state : ℕ → ℕ
next_state s = (1664525 * s + 1013904223) % 4294967296

-- the state after k steps from s
unfoldable pub state_after : ℕ → ℕ → ℕ
state_after zero s = s
state_after (suc k) s = next_state (state_after k s)

-- draw k from s, the first being draw 0: the upper 16 bits of the new state
unfoldable pub draw : ℕ → ℕ → ℕ
draw k s = state_after (suc k) s / 65536

-- a pair out of n bodies, by draws k and k + 1: a = draw modulo n, then b = (a + 1 + draw modulo (n - 1)) modulo n
unfoldable pub pair_drawn : ℕ → ℕ → ℕ → List ℕ
pair_drawn n k s = (draw k s % n) ∷ ((draw k s % n + 1 + draw (suc k) s % (n - 1)) % n) ∷ []

-- n types, each a draw modulo 3, from draw 0 on
unfoldable pub types_drawn : ℕ → ℕ → List ℕ
types_drawn n s = map (λ i. draw i s % 3) (range n)

-- n pairs, the first from draw k on and each `step` draws after the one before
unfoldable pub pairs_drawn : ℕ → ℕ → ℕ → ℕ → ℕ → List ℕ
pairs_drawn b k step n s = join_map (λ i. pair_drawn b (k + step * i) s) (range n)

-- n joints' enabled bytes, the first joint's pair being draws k and k + 1: each is a further draw modulo 2, behind its pair
unfoldable pub enabled_drawn : ℕ → ℕ → ℕ → List ℕ
enabled_drawn k n s = map (λ i. draw (k + 3 * i + 2) s % 2) (range n)

-- the file of a seed: b bodies first, then m manifolds, then j joints
unfoldable pub generated_bytes : ℕ → ℕ → ℕ → ℕ → List ℕ
generated_bytes seed b m j = file_of (types_drawn b seed) (pairs_drawn b b 2 m seed) (pairs_drawn b (b + 2 * m) 3 j seed) (enabled_drawn (b + 2 * m) j seed)
