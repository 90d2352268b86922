-- The header, the types, the pairs and the joints, each written behind the one before, are the file; what lies past it is kept.
use Rattle.std.proofs.Common.{ℕ, ◌+◌, ◌*◌, ◌≤◌, ◌≡◌, refl, ◌∙◌, List, ◌++◌, arith, length, length-append}
use Rattle.lists.specs.Basics.{over, put}
use Rattle.lists.proofs.Puts.{put_long, put_then, put_first}
use Rattle.frame.specs.Questions.{pair_count}
use Rattle.frame_file.specs.Written.{half_bytes, word_bytes, file_length, header_bytes, pair_bytes, joint_bytes, file_of, Writable}
use Rattle.frame_file.proofs.Decoded.{pair_bytes_long, joint_bytes_long}

pub header_long : (b m j : ℕ) → length (header_bytes b m j) ≡ 11
unfolding header_bytes word_bytes half_bytes
header_long b m j = refl

module _ (ts ps js es : List ℕ) (w : Writable ts ps js es) (o₀ o₁ o₂ o₃ o₄ : List ℕ) (h : file_length (length ts) (pair_count ps) (length es) ≤ length o₀)
    (e₁ : o₁ ≡ put 0 (header_bytes (length ts) (pair_count ps) (length es)) o₀) (e₂ : o₂ ≡ put 11 ts o₁) (e₃ : o₃ ≡ put (11 + length ts) (pair_bytes ps) o₂) (e₄ : o₄ ≡ put (11 + length ts + 4 * pair_count ps) (joint_bytes js es) o₃) where
  abbrev header : List ℕ
  header = header_bytes (length ts) (pair_count ps) (length es)

  pairs_size : length (pair_bytes ps) ≡ 4 * pair_count ps
  pairs_size = omega (arith, pair_bytes_long ps, w.even_manifolds)

  long₁ : length o₁ ≡ length o₀
  long₁ = put_long 0 header o₀ o₁ e₁ (omega (arith, header_long (length ts) (pair_count ps) (length es)))

  long₂ : length o₂ ≡ length o₀
  long₂ = put_long 11 ts o₁ o₂ e₂ (omega (arith, long₁)) ∙ long₁

  pub file-put : o₄ ≡ over (file_of ts ps js es) o₀
  unfolding file_of
  file-put =
      let joints = joint_bytes js es in
      let rest = pair_bytes ps ++ joints in
      let nj : length joints ≡ 5 * length es = joint_bytes_long js es w.even_joints in
      let nr : length rest ≡ 4 * pair_count ps + 5 * length es = length-append (pair_bytes ps) joints ∙ omega (arith, pairs_size, nj) in
      let f₃ : o₄ ≡ put (11 + length ts) rest o₂ = put_then (11 + length ts) (pair_bytes ps) o₂ o₃ e₃ joints o₄ (11 + length ts + 4 * pair_count ps) (omega (arith, pairs_size)) e₄ (omega (arith, nj, long₂)) in
      let f₂ : o₄ ≡ put 11 (ts ++ rest) o₁ = put_then 11 ts o₁ o₂ e₂ rest o₄ (11 + length ts) (omega arith) f₃ (omega (arith, nr, long₁)) in
      put_then 0 header o₀ o₁ e₁ (ts ++ rest) o₄ 11 (omega (arith, header_long (length ts) (pair_count ps) (length es))) f₂ (omega (arith, length-append ts rest, nr))
      ∙ put_first (header ++ (ts ++ rest)) o₀
