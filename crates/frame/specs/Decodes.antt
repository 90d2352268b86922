-- What decoding a file needs and leaves.
use Rattle.std.specs.Prelude.{ℕ, ◌+◌, ◌*◌, ◌≡◌, cond, List, [], ◌++◌, map, length, replicate}
use Rattle.frame.specs.Frames.{flag_of}
use Rattle.frame.specs.Questions.{asked}
use Rattle.frame.specs.Files.{second, count_b, count_m, count_j, types_in, manifolds_in, joint_ends_in, counts_in, live_in, file_questions}

-- the counts of all constraints: manifolds are pairs; on version 1 there are none
abbrev pub all_counts : List ℕ → List ℕ
all_counts bs = cond (second bs) (replicate (count_m bs) 2 ++ counts_in bs) []

-- a file that passed questions 1 to 5, and tables of its constraints' sizes
pub record ConstraintsDecodable (bs : List ℕ) (m : ℕ) (ps cs es : List ℕ) : Type 0 where
  pub file : asked (file_questions bs) ≡ 0
  pub manifolds : m ≡ count_m bs
  pub ends : length ps ≡ 2 * count_m bs + length (joint_ends_in bs)
  pub counts : length cs ≡ length (all_counts bs)
  pub enabled : length es ≡ count_j bs

-- endpoints (manifolds, then joints), counts, enabled bytes
pub record ConstraintsDecoded (bs ps cs es : List ℕ) : Type 0 where
  pub ends : ps ≡ manifolds_in bs ++ joint_ends_in bs
  pub counts : cs ≡ all_counts bs
  pub enabled : es ≡ live_in bs

-- a file that passed questions 1 to 5, and tables of its frame's sizes
pub record Decodable (bs : List ℕ) (m : ℕ) (ts fs ps cs es : List ℕ) : Type 0 where
  pub file : asked (file_questions bs) ≡ 0
  pub manifolds : m ≡ count_m bs
  pub types : length ts ≡ count_b bs
  pub flags : length fs ≡ count_b bs
  pub ends : length ps ≡ 2 * count_m bs + length (joint_ends_in bs)
  pub counts : length cs ≡ length (all_counts bs)
  pub enabled : length es ≡ count_j bs

-- types, flags, endpoints (manifolds, then joints), counts, enabled bytes
pub record Decoded (bs ts fs ps cs es : List ℕ) : Type 0 where
  pub types : ts ≡ types_in bs
  pub flags : fs ≡ map flag_of (types_in bs)
  pub ends : ps ≡ manifolds_in bs ++ joint_ends_in bs
  pub counts : cs ≡ all_counts bs
  pub enabled : es ≡ live_in bs
