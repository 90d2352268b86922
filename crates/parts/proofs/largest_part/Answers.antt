-- One part more: of what is left one bound goes, and the part up to the next bound is passed. At the end less than two bounds are left.
use Rattle.std.proofs.Common.{ℕ, suc, ◌+◌, ◌-◌, ◌≤◌, ◌<◌, max, ◌≡◌, refl, ap, ◌∙◌, List, arith, length, get_or, drop}
use Rattle.std.proofs.lemmas.Iterator.{window_more}
use Rattle.std.specs.Slice.Iter.{windows_rest}
use Rattle.lists.specs.Basics.{max_of, range}
use Rattle.lists.proofs.Ranges.{max-range-suc}
use Rattle.parts.specs.Steps.{widest}
use Rattle.parts.proofs.largest_part.Invariants.{width, Passed}
use Rattle.parts.proofs.largest_part.Goals as goal

passed_none : (bounds : List ℕ) → Passed bounds bounds 2 0
passed_none bounds =
    let z : length bounds - length bounds ≡ 0 = omega arith in
    record { two = refl; short = omega arith; last = omega arith; left = rw z; largest_is = rw z }

passed_more : (bounds rest rest' : List ℕ) (size largest a b : ℕ) → Passed bounds rest 2 largest → length rest' + 1 ≡ length rest → 2 ≤ length rest → rest' ≡ drop (length bounds - length rest') bounds → size ≡ 2
    → a ≡ get_or bounds (length bounds - length rest + 0) 0 → b ≡ get_or bounds (length bounds - length rest + 1) 0 → Passed bounds rest' size (max largest (b - a))
passed_more bounds rest rest' size largest a b v l h e s p q =
    let k : length bounds - length rest' ≡ suc (length bounds - length rest) = omega (arith, v.short) in
    let z : length bounds - length rest + 0 ≡ length bounds - length rest = omega arith in
    let o : length bounds - length rest + 1 ≡ suc (length bounds - length rest) = omega arith in
    record {
      two = s;
      short = omega (arith, v.short);
      last = omega (arith, v.short);
      left = e;
      largest_is = rw (k, max-range-suc (width bounds) (length bounds - length rest), ← v.largest_is, p, q, z, o);
    }

passed_done : {bounds rest : List ℕ} {size largest : ℕ} → Passed bounds rest size largest → length rest < size → largest ≡ widest bounds
unfolding widest
passed_done {bounds} {rest} v h = let e : length bounds - length rest ≡ length bounds - 1 = omega (arith, v.last, v.two) in v.largest_is ∙ ap (λ (n : ℕ). max_of (width bounds) (range n)) e

pub loop-pair-init : goal.loop-pair-init
loop-pair-init c = rw (c.into_iter-pair-iterator.ensures.into_iter_gives, c.windows-pair-items.ensures.rest, c.windows-pair-items.ensures.size) (passed_none c.args.bounds.now)

pub loop-pair-preserved : goal.loop-pair-preserved
loop-pair-preserved c =
    let v = c.loop-pair.invariant in
    let s = c.loop-pair.pair-iterator in
    let w = window_more c.args.bounds.now s c.next.new.self c.next.result c.in-Some.pair c.in-Some.is c.next.ensures.steps (omega (arith, v.two)) v.short v.left in
    let m : c.max-largest.result ≡ max c.loop-pair.largest (get_or c.in-Some.pair.now 1 0 - get_or c.in-Some.pair.now 0 0) = c.max-largest.ensures in
    rw m (passed_more c.args.bounds.now (windows_rest s) (windows_rest c.next.new.self) _ c.loop-pair.largest _ _ (rw v.two at v) w.0 (rw v.two at w.2) w.1 (c.in-Some.ensures.steps.0 ∙ v.two)
    (w.3 0 0 (omega (arith, v.two))) (w.3 1 0 (omega (arith, v.two))))

pub returns : goal.returns
returns c = c.from.ensures ∙ passed_done c.loop-pair.invariant c.in-None.ensures.steps.1.0
