-- What the loops keep: after i turns the first i types, pairs or joints are written, and the state is the one that they left.
use Rattle.std.proofs.Common.{◌≡◌, ℕ, ◌+◌, ◌-◌, ◌*◌, ◌/◌, ◌%◌, ◌≤◌, List, [], ◌∷◌, ◌++◌, length, sym, refl, ap, ◌∙◌, arith, length-append}
use Rattle.lists.proofs.Ranges.{join_map-append}
use Rattle.frame_file.specs.Written.{half_bytes, pair_bytes, joint_bytes}
use Rattle.frame_file.proofs.Decoded.{pair_bytes_long, joint_bytes_long}
use Rattle.writer.specs.declared.Writer.{Writer}
use Rattle.writer.specs.Wrote.{Wrote}
use Rattle.writer.proofs.Writes.{wrote_none, wrote_then}
use Rattle.generator.specs.Draws.{next_state, state_after, draw, pair_drawn, types_drawn, pairs_drawn, enabled_drawn}
use Rattle.generator.proofs.Draws.{state_turn, types_turn, types_long, pair_long, pairs_turn, pairs_long, enabled_long, joints_turn}

-- ---- after i turns, at d draws a turn: `text i` is written

pub record Drawn (d : ℕ) (text : ℕ → List ℕ) (s i : ℕ) (old new : Writer) (state : ℕ) : Type 0 where
  pub wrote : Wrote (text i) old new
  pub state_left : state ≡ state_after (d * i) s

pub drawn_first : (d : ℕ) (text : ℕ → List ℕ) (s : ℕ) (old : Writer) → text 0 ≡ [] → Drawn d text s 0 old old s
unfolding state_after
drawn_first d text s old none = record {
  wrote = rw none (wrote_none old);
  state_left = let e : 0 ≡ d * 0 = omega arith in ap (λ (n : ℕ). state_after n s) e;
}

-- one more: the piece stands behind
pub drawn_next : {d : ℕ} {text : ℕ → List ℕ} {s i : ℕ} {old mid new : Writer} {state : ℕ} {piece : List ℕ} (next : ℕ) → Drawn d text s i old mid state → text (i + 1) ≡ text i ++ piece → Wrote piece mid new → old.at + length (text i) + length piece ≤ length old.out.now → next ≡ state_after d state → Drawn d text s (i + 1) old new next
drawn_next {d} {text} {s} {i} {old} {mid} {new} {state} {piece} next h e f r g = record {
  wrote = rw e (wrote_then h.wrote f r);
  state_left = state_turn d i s state next h.state_left g;
}

pub one_step : (s n : ℕ) → n ≡ next_state s → n ≡ state_after 1 s
unfolding state_after
one_step s n e = e

-- ---- the three texts

module _ (s : ℕ) where
  abbrev pub types : ℕ → List ℕ
  types n = types_drawn n s

  pub types-none : types 0 ≡ []
  unfolding types_drawn
  types-none = refl

  pub types_size : (n : ℕ) → length (types n) ≡ 1 * n
  types_size n = omega (arith, types_long n s)

  pub types-next : (i state n u : ℕ) → state ≡ state_after (1 * i) s → n ≡ next_state state → u ≡ n / 65536 → types (i + 1) ≡ types i ++ (u % 3) ∷ []
  unfolding draw state_after
  types-next i state n u e f g =
      let k : 1 * i ≡ i = omega arith in
      let d : u ≡ draw i s = g ∙ ap (λ (x : ℕ). x / 65536) f ∙ ap (λ (x : ℕ). next_state x / 65536) (e ∙ ap (λ (x : ℕ). state_after x s) k) in
      types_turn i s ∙ ap (λ (x : ℕ). types i ++ (x % 3) ∷ []) (sym d)

  module _ (b : ℕ) where
    abbrev pub manifolds : ℕ → List ℕ
    manifolds n = pair_bytes (pairs_drawn b 0 2 n s)

    pub manifolds-none : manifolds 0 ≡ []
    unfolding pairs_drawn
    manifolds-none = refl

    pub manifolds_size : (n : ℕ) → length (manifolds n) ≡ 4 * n
    manifolds_size n = omega (arith, pair_bytes_long (pairs_drawn b 0 2 n s), pairs_long b 0 2 n s)

    pub manifolds_turn : (i state : ℕ) → state ≡ state_after (2 * i) s → manifolds (i + 1) ≡ manifolds i ++ pair_bytes (pair_drawn b 0 state)
    manifolds_turn i state e =
        ap pair_bytes (pairs_turn b 2 i s) ∙ join_map-append half_bytes (pairs_drawn b 0 2 i s) (pair_drawn b 0 (state_after (2 * i) s))
        ∙ ap (λ (t : ℕ). manifolds i ++ pair_bytes (pair_drawn b 0 t)) (sym e)

    abbrev pub joints : ℕ → List ℕ
    joints n = joint_bytes (pairs_drawn b 0 3 n s) (enabled_drawn 0 n s)

    pub joints-none : joints 0 ≡ []
    unfolding pairs_drawn
    joints-none = refl

    pub joints_size : (n : ℕ) → length (joints n) ≡ 5 * n
    joints_size n = omega (arith, joint_bytes_long (pairs_drawn b 0 3 n s) (enabled_drawn 0 n s) (omega (arith, pairs_long b 0 3 n s, enabled_long 0 n s)), enabled_long 0 n s)

    pub joints-next : (i state : ℕ) → state ≡ state_after (3 * i) s → joints (i + 1) ≡ joints i ++ (pair_bytes (pair_drawn b 0 state) ++ (draw 2 state % 2) ∷ [])
    joints-next i state e = joints_turn b i s ∙ ap (λ (t : ℕ). joints i ++ (pair_bytes (pair_drawn b 0 t) ++ (draw 2 t % 2) ∷ [])) (sym e)

-- a pair has 4 bytes
pub pair_size : (b s : ℕ) → length (pair_bytes (pair_drawn b 0 s)) ≡ 4
pair_size b s = omega (arith, pair_bytes_long (pair_drawn b 0 s), pair_long b s)

-- ---- one pair

pub pair_is : (b s x y u v : ℕ) → x ≡ next_state s → y ≡ next_state x → u ≡ x / 65536 → v ≡ y / 65536 → (u % b) ∷ ((u % b + 1 + v % (b - 1)) % b) ∷ [] ≡ pair_drawn b 0 s
unfolding pair_drawn draw state_after
pair_is b s x y u v ex ey eu ev = rw (eu, ev, ey, ex)

pub pair_state : (s x y : ℕ) → x ≡ next_state s → y ≡ next_state x → y ≡ state_after 2 s
unfolding state_after
pair_state s x y ex ey = ey ∙ ap next_state ex

-- ---- one joint: the pair, and the enabled byte behind it

pub joint_state : (s t n : ℕ) → t ≡ state_after 2 s → n ≡ next_state t → n ≡ state_after 3 s
unfolding state_after
joint_state s t n et en = en ∙ ap next_state et

pub enabled_is : (s t n u : ℕ) → t ≡ state_after 2 s → n ≡ next_state t → u ≡ n / 65536 → u ≡ draw 2 s
unfolding draw state_after
enabled_is s t n u et en eu = rw (eu, en, et)

-- a joint has 5 bytes
pub joint_size : (b s : ℕ) → length (pair_bytes (pair_drawn b 0 s) ++ (draw 2 s % 2) ∷ []) ≡ 5
joint_size b s = omega (arith, length-append (pair_bytes (pair_drawn b 0 s)) ((draw 2 s % 2) ∷ []), pair_size b s)
