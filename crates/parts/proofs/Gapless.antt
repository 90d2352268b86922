-- Constraints whose endpoints fill the list without a gap. Each starts where those before it end, so no two overlap: a write over the part
-- of one, in a table that is read by the same bounds, keeps the parts of all others, and the parts one after another are the table.
use Rattle.std.proofs.Common.{ℕ, zero, suc, ◌+◌, ◌-◌, ◌*◌, ◌≤◌, ◌<◌, ◌≡◌, sym, ap, ◌∙◌, List, [], ◌++◌, append_assoc, arith, eqb, ltb, length, get_or, take, drop, length-append, length-drop, take-append-drop, length-take-le, take_all, take_at, drop_at, drop-drop, take-add, eqb-true, ltb-true, ltb-false}
use Rattle.std.proofs.Math.Seq.{take-append-le, drop-append-le}
use Rattle.std.proofs.lemmas.Bool.{eqb-false}
use Rattle.lists.proofs.Laws.{by_cases}
use Rattle.groups.specs.Groups.{flatten}
use Rattle.groups.proofs.Tables.{flatten-zero, flatten-suc, start-suc, start_mono, flatten_twos}
use Rattle.parts.specs.Parts.{part_at, Bounded}
use Rattle.parts.specs.Steps.{start_at, Gapless}

-- ---- the list ps in the place of the entries of t from a up to e
abbrev pub written : ℕ → ℕ → List ℕ → List ℕ → List ℕ
written a e t ps = take a t ++ (ps ++ drop (e - a) (drop a t))

module _ (a e : ℕ) (t ps : List ℕ) (order : a ≤ e) (room : e ≤ length t) (l : length ps ≡ e - a) where
  front : length (take a t) ≡ a
  front = length-take-le a t (omega arith)

  pub written_long : length (written a e t ps) ≡ length t
  written_long = omega (arith, front, length-append (take a t) (ps ++ drop (e - a) (drop a t)), length-append ps (drop (e - a) (drop a t)), length-drop (e - a) (drop a t), length-drop a t)

  written-own : take (e - a) (drop a (written a e t ps)) ≡ ps
  written-own = rw (drop_at (take a t) (ps ++ drop (e - a) (drop a t)) a front) (take_at ps (drop (e - a) (drop a t)) (e - a) l)

  written-before : (s m : ℕ) → s + m ≤ a → take m (drop s (written a e t ps)) ≡ take m (drop s t)
  written-before s m h = early (ps ++ drop (e - a) (drop a t)) ∙ sym (early (drop a t)) ∙ ap (λ (x : List ℕ). take m (drop s x)) (take-append-drop a t)
    where
      early : (rest : List ℕ) → take m (drop s (take a t ++ rest)) ≡ take m (drop s (take a t))
      early rest = rw (drop-append-le s (take a t) rest (omega (arith, front))) (take-append-le m (drop s (take a t)) rest (omega (arith, front, length-drop s (take a t))))

  written_after : (s : ℕ) → e ≤ s → drop s (written a e t ps) ≡ drop s t
  written_after s h =
      let whole : e + (s - e) ≡ s = omega arith in
      let end : a + (e - a) ≡ e = omega arith in
      let rest = drop (e - a) (drop a t) in
      let behind : drop e (written a e t ps) ≡ drop e t =
      ap (drop e) (sym (append_assoc (take a t) ps rest))
      ∙ drop_at (take a t ++ ps) rest e (omega (arith, front, length-append (take a t) ps))
      ∙ drop-drop (e - a) a t
      ∙ ap (λ (k : ℕ). drop k t) end in
      ap (λ (k : ℕ). drop k (written a e t ps)) (sym whole)
      ∙ sym (drop-drop (s - e) e (written a e t ps))
      ∙ ap (drop (s - e)) behind
      ∙ drop-drop (s - e) e t
      ∙ ap (λ (k : ℕ). drop k t) whole

-- ---- the parts
module _ {n : ℕ} {bounds es : List ℕ} (b : Bounded n bounds es) where
  -- in any table the part of constraint r is as long as its endpoints are many, and starts where they do
  pub part-read : (t : List ℕ) (r : ℕ) → r < n → part_at bounds t r ≡ take (length (part_at bounds es r)) (drop (start_at bounds r) t)
  part-read t r h =
      by_cases (eqb (length bounds) 0)
      (λ e. let l : length (take 2 (drop (2 * r) es)) ≡ 2 = length-take-le 2 (drop (2 * r) es) (omega (arith, length-drop (2 * r) es, (b r h).pair (eqb-true (length bounds) 0 e))) in rw (e, l))
      (λ e.
      let c = (b r h).part (eqb-false (length bounds) 0 e) in
      let k = get_or bounds (2 * r + 1) 0 - get_or bounds (2 * r) 0 in
      let l : length (take k (drop (get_or bounds (2 * r) 0) es)) ≡ k = length-take-le k (drop (get_or bounds (2 * r) 0) es) (omega (arith, length-drop (get_or bounds (2 * r) 0) es, c.inside)) in
      rw (e, l))

  module _ (g : Gapless n bounds es) where
    start_is : (r : ℕ) → r < n → start_at bounds r ≡ length (flatten (part_at bounds es) r)
    unfolding flatten
    start_is r h = g.starts r h

    whole_is : length es ≡ length (flatten (part_at bounds es) n)
    unfolding flatten
    whole_is = g.whole

    pub part_inside : (r : ℕ) → r < n → start_at bounds r + length (part_at bounds es r) ≤ length es
    part_inside r h = omega (arith, start_is r h, whole_is, start-suc (part_at bounds es) r, start_mono (part_at bounds es) (suc r) n h)

    part-next : (q r : ℕ) → q < r → r < n → start_at bounds q + length (part_at bounds es q) ≤ start_at bounds r
    part-next q r h k = omega (arith, start_is q (omega arith), start_is r k, start-suc (part_at bounds es) q, start_mono (part_at bounds es) (suc q) r h)

    -- a write over the part of constraint q
    module _ (t ps : List ℕ) (q : ℕ) (h : q < n) (room : length t ≡ length es) (l : length ps ≡ length (part_at bounds es q)) where
      abbrev overwritten : List ℕ
      overwritten = written (start_at bounds q) (start_at bounds q + length (part_at bounds es q)) t ps

      inside : start_at bounds q + length (part_at bounds es q) ≤ length t
      inside = omega (arith, part_inside q h)

      long : length ps ≡ start_at bounds q + length (part_at bounds es q) - start_at bounds q
      long = omega (arith, l)

      pub part-written : part_at bounds overwritten q ≡ ps
      part-written =
          let e : length (part_at bounds es q) ≡ start_at bounds q + length (part_at bounds es q) - start_at bounds q = omega arith in
          part-read overwritten q h
          ∙ ap (λ (k : ℕ). take k (drop (start_at bounds q) overwritten)) e
          ∙ written-own (start_at bounds q) (start_at bounds q + length (part_at bounds es q)) t ps (omega arith) inside long

      pub part_kept : (r : ℕ) → r < n → (r ≡ q → ⊥) → part_at bounds overwritten r ≡ part_at bounds t r
      part_kept r k d =
          let a = start_at bounds q in
          let e = start_at bounds q + length (part_at bounds es q) in
          let m = length (part_at bounds es r) in
          part-read overwritten r k
          ∙ by_cases (ltb r q)
          (λ c. written-before a e t ps (omega arith) inside long (start_at bounds r) m (part-next r q (ltb-true r q c) h))
          (λ c. let o : q < r = omega (arith, d, ltb-false r q c) in ap (take m) (written_after a e t ps (omega arith) inside long (start_at bounds r) (part-next q r o k)))
          ∙ sym (part-read t r k)

    -- a table whose parts are those of f
    module _ (f : ℕ → List ℕ) (t : List ℕ) (p : (r : ℕ) → r < n → part_at bounds t r ≡ f r) where
      parts_front : (k : ℕ) → k ≤ n → take (length (flatten (part_at bounds es) k)) t ≡ flatten f k
      parts_front zero h = rw (flatten-zero (part_at bounds es), flatten-zero f)
      parts_front (suc k) h =
          let at = length (flatten (part_at bounds es) k) in
          let m = length (part_at bounds es k) in
          ap (λ (j : ℕ). take j t) (start-suc (part_at bounds es) k)
          ∙ take-add at m t
          ∙ ap (λ (x : List ℕ). x ++ take m (drop at t)) (parts_front k (omega arith))
          ∙ ap (λ (j : ℕ). flatten f k ++ take m (drop j t)) (sym (start_is k h))
          ∙ ap (λ (x : List ℕ). flatten f k ++ x) (sym (part-read t k h) ∙ p k h)
          ∙ sym (flatten-suc f k)

      pub parts_whole : length t ≡ length es → t ≡ flatten f n
      parts_whole room = sym (take_all (length (flatten (part_at bounds es) n)) t (omega (arith, whole_is))) ∙ parts_front n (omega arith)

-- ---- pairs
pub pairs_gapless : (n : ℕ) (es : List ℕ) → length es ≡ 2 * n → Gapless n [] es
unfolding flatten
pairs_gapless n es l =
    let many : (r : ℕ) → r ≤ n → length (flatten (part_at [] es) r) ≡ 2 * r =
    λ r h. flatten_twos (part_at [] es) r (λ s k. length-take-le 2 (drop (2 * s) es) (omega (arith, length-drop (2 * s) es))) in
    record { starts = λ r h. sym (many r (omega arith)); whole = l ∙ sym (many n (omega arith)) }
