-- Draws go on where others stopped: k steps and then i steps are k + i steps, so what is drawn from draw k on is what is drawn from the state after
-- k steps. One pair, type or joint more stands behind those before it, and is drawn from the state that they left.
use Rattle.std.proofs.Common.{◌≡◌, ℕ, zero, suc, ◌+◌, ◌-◌, ◌*◌, ◌/◌, ◌%◌, List, [], ◌∷◌, ◌++◌, map, length, sym, refl, ap, ◌∙◌, append_assoc, append-nil, add-one, arith}
use Rattle.lists.specs.Basics.{join_map, range}
use Rattle.lists.proofs.Sums.{sum_times}
use Rattle.lists.proofs.Laws.{length-range, sum_one}
use Rattle.lists.proofs.Ranges.{range_snoc, map-range-suc, length-map-range, join_map-append, length-join_map}
use Rattle.frame_file.specs.Written.{pair_bytes, joint_bytes}
use Rattle.generator.specs.Draws.{next_state, state_after, draw, pair_drawn, types_drawn, pairs_drawn, enabled_drawn}

-- ---- states

pub step_next : (s m r : ℕ) → m ≡ (1664525 * s) % 4294967296 → r ≡ (m + 1013904223) % 4294967296 → r ≡ next_state s
unfolding next_state
step_next s m r e f = f ∙ omega (arith, e)

pub steps_then : (k i s : ℕ) → state_after (k + i) s ≡ state_after i (state_after k s)
unfolding state_after
steps_then k zero s = let e : k + 0 ≡ k = omega arith in ap (λ (n : ℕ). state_after n s) e
steps_then k (suc i) s = let e : k + suc i ≡ suc (k + i) = omega arith in ap (λ (n : ℕ). state_after n s) e ∙ ap next_state (steps_then k i s)

pub draw_then : (k i s : ℕ) → draw (k + i) s ≡ draw i (state_after k s)
unfolding draw
draw_then k i s = let e : suc (k + i) ≡ k + suc i = omega arith in ap (λ (n : ℕ). state_after n s / 65536) e ∙ ap (λ (n : ℕ). n / 65536) (steps_then k (suc i) s)

-- ---- one more: the state after it, when each takes d draws

pub state_turn : (d i s t r : ℕ) → t ≡ state_after (d * i) s → r ≡ state_after d t → r ≡ state_after (d * (i + 1)) s
state_turn d i s t r e f =
    let n : d * i + d ≡ d * (i + 1) = omega arith in
    f ∙ ap (state_after d) e ∙ sym (steps_then (d * i) d s) ∙ ap (λ (k : ℕ). state_after k s) n

pub types_turn : (i s : ℕ) → types_drawn (i + 1) s ≡ types_drawn i s ++ (draw i s % 3) ∷ []
unfolding types_drawn
types_turn i s = ap (λ (n : ℕ). map (λ (k : ℕ). draw k s % 3) (range n)) (add-one i) ∙ map-range-suc (λ k. draw k s % 3) i

pub types_long : (n s : ℕ) → length (types_drawn n s) ≡ n
unfolding types_drawn
types_long n s = length-map-range (λ i. draw i s % 3) n

pub pair_shift : (b k i s : ℕ) → pair_drawn b (k + i) s ≡ pair_drawn b i (state_after k s)
unfolding pair_drawn
pair_shift b k i s =
    let e : suc (k + i) ≡ k + suc i = omega arith in
    ap (λ (n : ℕ). (draw (k + i) s % b) ∷ ((draw (k + i) s % b + 1 + draw n s % (b - 1)) % b) ∷ []) e
    ∙ ap (λ (n : ℕ). (draw (k + i) s % b) ∷ ((draw (k + i) s % b + 1 + n % (b - 1)) % b) ∷ []) (draw_then k (suc i) s)
    ∙ ap (λ (n : ℕ). (n % b) ∷ ((n % b + 1 + draw (suc i) (state_after k s) % (b - 1)) % b) ∷ []) (draw_then k i s)

pair_here : (b k s : ℕ) → pair_drawn b k s ≡ pair_drawn b 0 (state_after k s)
pair_here b k s = let e : k ≡ k + 0 = omega arith in ap (λ (n : ℕ). pair_drawn b n s) e ∙ pair_shift b k 0 s

pub pair_long : (b s : ℕ) → length (pair_drawn b 0 s) ≡ 2
unfolding pair_drawn
pair_long b s = refl

pub pairs_turn : (b d i s : ℕ) → pairs_drawn b 0 d (i + 1) s ≡ pairs_drawn b 0 d i s ++ pair_drawn b 0 (state_after (d * i) s)
unfolding pairs_drawn
pairs_turn b d i s =
    let g : ℕ → List ℕ = λ (k : ℕ). pair_drawn b (0 + d * k) s in
    let e : 0 + d * i ≡ d * i = omega arith in
    ap (λ (n : ℕ). join_map g (range n)) (add-one i)
    ∙ ap (join_map g) (range_snoc i)
    ∙ join_map-append g (range i) (i ∷ [])
    ∙ ap (λ (l : List ℕ). join_map g (range i) ++ l) (append-nil (g i) ∙ ap (λ (n : ℕ). pair_drawn b n s) e ∙ pair_here b (d * i) s)

enabled_turn : (i s : ℕ) → enabled_drawn 0 (i + 1) s ≡ enabled_drawn 0 i s ++ (draw 2 (state_after (3 * i) s) % 2) ∷ []
unfolding enabled_drawn
enabled_turn i s =
    let e : 0 + 3 * i + 2 ≡ 3 * i + 2 = omega arith in
    ap (λ (n : ℕ). map (λ (k : ℕ). draw (0 + 3 * k + 2) s % 2) (range n)) (add-one i)
    ∙ map-range-suc (λ k. draw (0 + 3 * k + 2) s % 2) i
    ∙ ap (λ (n : ℕ). map (λ (k : ℕ). draw (0 + 3 * k + 2) s % 2) (range i) ++ (n % 2) ∷ []) (ap (λ (n : ℕ). draw n s) e ∙ draw_then (3 * i) 2 s)

pub enabled_long : (k n s : ℕ) → length (enabled_drawn k n s) ≡ n
unfolding enabled_drawn
enabled_long k n s = length-map-range (λ i. draw (k + 3 * i + 2) s % 2) n

pub pairs_long : (b k d n s : ℕ) → length (pairs_drawn b k d n s) ≡ 2 * n
unfolding pairs_drawn pair_drawn
pairs_long b k d n s =
    length-join_map (λ i. pair_drawn b (k + d * i) s) (range n)
    ∙ omega (arith, sum_times 2 (λ i. 1) (range n), sum_one (range n), length-range 0 n)

-- ---- in bytes

joint_bytes_behind : (js es : List ℕ) (a b e : ℕ) → length js ≡ 2 * length es → joint_bytes (js ++ a ∷ b ∷ []) (es ++ e ∷ []) ≡ joint_bytes js es ++ (pair_bytes (a ∷ b ∷ []) ++ e ∷ [])
joint_bytes_behind [] [] a b e h = refl
joint_bytes_behind [] (x ∷ es) a b e h = absurd (omega arith)
joint_bytes_behind (y ∷ []) es a b e h = absurd (omega arith)
joint_bytes_behind (y ∷ z ∷ js) [] a b e h = absurd (omega arith)
joint_bytes_behind (y ∷ z ∷ js) (x ∷ es) a b e h =
    ap (λ (l : List ℕ). pair_bytes (y ∷ z ∷ []) ++ (x ∷ l)) (joint_bytes_behind js es a b e (omega arith))
    ∙ sym (append_assoc (pair_bytes (y ∷ z ∷ [])) (x ∷ joint_bytes js es) (pair_bytes (a ∷ b ∷ []) ++ e ∷ []))

pub joints_turn : (b i s : ℕ) → joint_bytes (pairs_drawn b 0 3 (i + 1) s) (enabled_drawn 0 (i + 1) s)
    ≡ joint_bytes (pairs_drawn b 0 3 i s) (enabled_drawn 0 i s) ++ (pair_bytes (pair_drawn b 0 (state_after (3 * i) s)) ++ (draw 2 (state_after (3 * i) s) % 2) ∷ [])
unfolding pair_drawn
joints_turn b i s =
    ap (λ (l : List ℕ). joint_bytes l (enabled_drawn 0 (i + 1) s)) (pairs_turn b 3 i s)
    ∙ ap (joint_bytes (pairs_drawn b 0 3 i s ++ pair_drawn b 0 (state_after (3 * i) s))) (enabled_turn i s)
    ∙ joint_bytes_behind (pairs_drawn b 0 3 i s) (enabled_drawn 0 i s) _ _ _ (omega (arith, pairs_long b 0 3 i s, enabled_long 0 i s))
