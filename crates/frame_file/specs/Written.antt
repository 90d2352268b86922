-- A frame written in the file form: byte 1, then big-endian the length of the rest, B, M, J, types, pairs, joints.
use Rattle.std.specs.Prelude.{ℕ, ◌+◌, ◌*◌, ◌/◌, ◌%◌, ◌≡◌, true, List, [], ◌∷◌, ◌++◌, length}
use Rattle.lists.specs.Basics.{join_map}
use Rattle.frame.specs.Questions.{few_each, pair_count}

-- a number of 16 bits, and one of 32, the upper byte first
unfoldable pub half_bytes : ℕ → List ℕ
half_bytes n = n / 256 ∷ n % 256 ∷ []

unfoldable pub word_bytes : ℕ → List ℕ
word_bytes n = half_bytes (n / 65536) ++ half_bytes (n % 65536)

-- how long the file of b bodies, m manifolds and j joints is, and its first 11 bytes
abbrev pub file_length : ℕ → ℕ → ℕ → ℕ
file_length b m j = 11 + b + 4 * m + 5 * j

unfoldable pub header_bytes : ℕ → ℕ → ℕ → List ℕ
header_bytes b m j = 1 ∷ word_bytes (6 + b + 4 * m + 5 * j) ++ (half_bytes b ++ (half_bytes m ++ half_bytes j))

-- pairs a, b, a, b, ..; and joints: a, b and an enabled byte each
abbrev pub pair_bytes : List ℕ → List ℕ
pair_bytes ps = join_map half_bytes ps

abbrev pub joint_bytes : List ℕ → List ℕ → List ℕ
joint_bytes [] es = []
joint_bytes (a ∷ []) es = []
joint_bytes (a ∷ b ∷ js) [] = []
joint_bytes (a ∷ b ∷ js) (e ∷ es) = pair_bytes (a ∷ b ∷ []) ++ (e ∷ joint_bytes js es)

-- the file of types, manifold pairs, joint pairs and the joints' enabled bytes
unfoldable pub file_of : List ℕ → List ℕ → List ℕ → List ℕ → List ℕ
file_of ts ps js es = header_bytes (length ts) (pair_count ps) (length es) ++ (ts ++ (pair_bytes ps ++ joint_bytes js es))

-- what these four must be for their file to say them: sizes within the limits, whole pairs, one enabled byte a joint. An endpoint needs no
-- bound: one above 65,535 would give a number above 255, which is no byte
pub record Writable (ts ps js es : List ℕ) : Type 0 where
  pub few : few_each (length ts) (pair_count ps) (length es) ≡ true
  pub even_manifolds : length ps ≡ 2 * pair_count ps
  pub even_joints : length js ≡ 2 * length es
