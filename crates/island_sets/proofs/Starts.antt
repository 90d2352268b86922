-- Every body alone: each is its own parent and its own root, and weighs 1, the number of bodies in its set.
use Rattle.std.proofs.Common.{ℕ, ◌*◌, ◌≤◌, ◌<◌, arith, ◌≡◌, refl, sym, ap, ◌∙◌, subst, List, eqb, length, get_or, replicate}
use Rattle.std.proofs.Math.Decide.{dec_lt}
use Rattle.std.proofs.Math.ListN.{length-replicate, get_or-replicate, get_or-eq_default}
use Rattle.lists.specs.Basics.{one, range}
use Rattle.lists.proofs.Laws.{length-range, get_or-any}
use Rattle.lists.proofs.Ranges.{range_at}
use Rattle.lists.proofs.Sums.{sum_ext, collapse}
use Rattle.island_sets.specs.Sets.{link, root_of, size_in}
use Rattle.island_sets.specs.Steps.{Weighed, Told, Sets}
use Rattle.island_sets.proofs.Links.{roots_are}
use Rattle.island_sets.proofs.Weights.{link_past, ends}

link_self : (n x : ℕ) → link (range n) x ≡ x
link_self n x = go (dec_lt x n)
  where
    go : Dec (x < n) → link (range n) x ≡ x
    go (yes h) = get_or-any (range n) x x 0 (omega (arith, length-range 0 n)) ∙ range_at n x h
    go (no h) = link_past (range n) x (omega (arith, length-range 0 n))

-- n sizes of 1
abbrev pub ones : ℕ → List ℕ
ones n = replicate n 1

length-ones : (n : ℕ) → length (ones n) ≡ n
length-ones n = length-replicate {A = ℕ} n 1

weight_one : (n x : ℕ) → x < n → get_or (ones n) x 0 ≡ 1
weight_one n x h = get_or-replicate n x 1 0 h

weight_most : (n x : ℕ) → get_or (replicate n 1) x 0 ≤ n
weight_most n x = go (dec_lt x n)
  where
    go : Dec (x < n) → get_or (replicate n 1) x 0 ≤ n
    go (yes h) = omega (arith, weight_one n x h)
    go (no h) = omega (arith, get_or-eq_default (ones n) 0 {n = x} (omega (arith, length-ones n)))

size_alone : (n b : ℕ) → b < n → size_in n (λ x. x) b ≡ 1
unfolding size_in
size_alone n b h = sum_ext (λ m. one (eqb m b)) (λ m. one (eqb m b) * 1) (range n) (λ m. omega arith) ∙ collapse (λ m. 1) b 0 n (omega arith) (omega arith)

weighed_self : (n : ℕ) → Weighed (range n) (replicate n 1)
weighed_self n = record {
  long = length-ones n ∙ sym (length-range 0 n);
  inside = λ x k. omega (arith, link_self n x);
  some = λ x k. omega (arith, weight_one n x (omega (arith, k, length-range 0 n)));
  most = λ x. omega (arith, weight_most n x, length-range 0 n);
  halves = λ x k. absurd (k (link_self n x));
}

pub root_self : (n : ℕ) → root_of (range n) ≡ (λ (x : ℕ). x)
root_self n = roots_are (range n) (ends (range n) (replicate n 1) (weighed_self n)) (λ x. x) (λ b e. refl) (link_self n)

told_self : (n : ℕ) → Told n (λ x. x) (replicate n 1)
told_self n b k = weight_one n b k ∙ sym (size_alone n b k)

pub sets_self : (n : ℕ) → n ≤ 4096 → Sets (range n) (replicate n 1)
sets_self n h = record {
  few = omega (arith, length-range 0 n);
  weighed = weighed_self n;
  told = subst (λ (k : ℕ). Told k (root_of (range n)) (replicate n 1)) (sym (length-range 0 n)) (subst (λ (g : ℕ → ℕ). Told n g (replicate n 1)) (sym (root_self n)) (told_self n));
}

-- tables that were reset
pub fresh : (n m : ℕ) (p s : List ℕ) → n ≤ 4096 → m ≡ n → p ≡ range n → s ≡ replicate m 1 → Sets p s × (root_of p ≡ (λ (x : ℕ). x))
fresh n m p s few e q r = (
  subst (λ (t : List ℕ). Sets p t) (sym (r ∙ ap ones e)) (subst (λ (t : List ℕ). Sets t (ones n)) (sym q) (sets_self n few)),
  ap root_of q ∙ root_self n,
)
