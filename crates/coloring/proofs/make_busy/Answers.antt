-- One body more: a bit is set if the body is dynamic and the color fits, and setting it twice changes nothing.
use Rattle.std.proofs.Common.{ℕ, ◌+◌, ◌≤◌, ◌<◌, ◌≡◌, refl, ◌∙◌, Bool, true, false, ◌&&◌, cond, List, arith, bit_and, bit_or, ltb, eqb, length, get_or, set, take, get_or-set_same, get_or-set_other, eqb-true, ltb-true}
use Rattle.std.proofs.Math.Bool.{and-true, or-true, or-false}
use Rattle.std.proofs.lemmas.Bool.{eqb-false}
use Rattle.lists.specs.Basics.{one, mem}
use Rattle.lists.proofs.Laws.{by_cases, all_in, get_or-mem}
use Rattle.lists.proofs.Scans.{any_next}
use Rattle.lists.proofs.Bits.{byte_one, set_bit}
use Rattle.groups.specs.Groups.{flagged}
use Rattle.coloring.specs.Steps.{MadeBusy}
use Rattle.coloring.proofs.make_busy.Goals as goal

bit_low : (c : Bool) (x : ℕ) → x ≤ 1 → cond c 1 x ≤ 1
bit_low true x h = omega arith
bit_low false x h = h

twice : (e f m : Bool) (x : ℕ) → cond (e && f) 1 (cond (e && (f && m)) 1 x) ≡ cond (e && f) 1 x
twice true true m x = refl
twice true false m x = refl
twice false f m x = refl

-- one body more
module _ (flags bodies busy₀ busy : List ℕ) (fits i : ℕ) (l : i < length bodies) (low : fits ≤ 1) (bits : (b : ℕ) → b < length busy₀ → get_or busy₀ b 0 ≤ 1) (size : length busy ≡ length busy₀)
    (v : MadeBusy flags fits (take i bodies) busy₀ busy) where
  abbrev body : ℕ
  body = get_or bodies i 0

  more : body < length busy → MadeBusy flags fits (take (i + 1) bodies) busy₀ (set busy body (bit_or (get_or busy body 0) (bit_and (one (flagged flags body)) fits)))
  more s b h = by_cases (eqb b body)
      (λ e. let q = eqb-true b body e in let o : body < length busy₀ = omega (arith, size) in
      rw (any_next (eqb b) bodies i l, e, or-true, q, and-true)
      (get_or-set_same busy body (bit_or (get_or busy body 0) (bit_and (one (flagged flags body)) fits)) 0 s
      ∙ set_bit (get_or busy body 0) fits (flagged flags body) (rw (v body o) (bit_low (eqb fits 1 && (flagged flags body && mem body (take i bodies))) (get_or busy₀ body 0) (bits body o))) low
      ∙ rw (v body o) (twice (eqb fits 1) (flagged flags body) (mem body (take i bodies)) (get_or busy₀ body 0))))
      (λ e. rw (any_next (eqb b) bodies i l, e, or-false) (get_or-set_other busy body b (bit_or (get_or busy body 0) (bit_and (one (flagged flags body)) fits)) 0 (eqb-false b body e) ∙ v b h))

pub loop-body-preserved : goal.loop-body-preserved
loop-body-preserved c =
    let l = c.loop-body in
    let flags = c.args.dynamic_bodies.now in
    let bodies = c.args.bodies.now in
    let body = get_or bodies l.body-index 0 in
    let low : body < length flags = ltb-true body (length flags) (all_in (λ b. ltb b (length flags)) body bodies (get_or-mem bodies l.body-index (omega arith)) c.requires.busy_bodies_len.1) in
    let size : length l.busy_bodies ≡ length c.args.busy_bodies.now = l.auto.busy_bodies in
    rw (c.from-dynamic.ensures, c.from-place.ensures, byte_one (flagged flags body)) (more flags bodies c.args.busy_bodies.now l.busy_bodies c.args.fits l.body-index (omega arith) c.requires.fits_bound.0 c.requires.fits_bound.1 size l.invariant (omega (arith, low, size, c.requires.busy_bodies_len.0)))
