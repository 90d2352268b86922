-- The constraint that is read is one of those uncolored, so its bodies exist; one body more adds its bit.
use Rattle.std.proofs.Common.{ℕ, ◌+◌, ◌-◌, ◌<◌, ◌≡◌, refl, sym, ap, ◌∙◌, true, List, [], arith, bit_or, leb, ltb, eqb, length, get_or, take, take_all, ltb-true}
use Rattle.lists.specs.Basics.{one, all}
use Rattle.lists.proofs.Laws.{and_right, all_in, get_or-mem}
use Rattle.lists.proofs.Scans.{any_next, any-first}
use Rattle.lists.proofs.Bits.{or-bits, one-true}
use Rattle.parts.specs.Parts.{part_at, parts_at}
use Rattle.parts.proofs.Parts.{parts-at}
use Rattle.coloring.specs.Coloring.{Opened}
use Rattle.coloring.proofs.Passing.{barred, Passed, bits, next_in, next-bodies, walk_left, walk_passed, walk_ends}
use Rattle.coloring.proofs.walk.Goals as goal

-- one body more
bit_next : (busies bs : List ℕ) (i bit : ℕ) → i < length bs → bit ≡ one (barred busies (take i bs)) → get_or busies (get_or bs i 0) 0 ≡ one (eqb (get_or busies (get_or bs i 0) 0) 1)
    → bit_or bit (get_or busies (get_or bs i 0) 0) ≡ one (barred busies (take (i + 1) bs))
bit_next busies bs i bit l e g =
    let b = get_or busies (get_or bs i 0) 0 in
    let p = barred busies (take i bs) in
    ap (λ (x : ℕ). bit_or x b) e ∙ ap (bit_or (one p)) g ∙ or-bits p (eqb b 1) ∙ ap one (sym (any_next (λ b. eqb (get_or busies b 0) 1) bs i l))

-- the constraint that is read, at place i of those uncolored, and its bodies bs
module _ {flags : List ℕ} (bounds es : List ℕ) {k start count : ℕ} {remaining₀ colored₀ busy₀ remaining colored busies : List ℕ} {left end i : ℕ}
    (o : Opened flags (parts_at (length colored₀) bounds es) k start count remaining₀ colored₀ busy₀)
    (v : Passed flags (parts_at (length colored₀) bounds es) k start remaining₀ colored₀ remaining colored busies left end i)
    (l : i < count) (bs : List ℕ) (e : bs ≡ part_at bounds es (get_or remaining i 0)) where
  bodies_are : bs ≡ get_or (parts_at (length colored₀) bounds es) (get_or remaining i 0) []
  bodies_are = e ∙ sym (parts-at (length colored₀) bounds es (get_or remaining i 0) (next_in o v l))

  bodies_in_lem : all (λ b. ltb b (length flags)) bs ≡ true
  bodies_in_lem = next-bodies o v l bs bodies_are

  -- one that is looked at
  body_in : (j : ℕ) → j < length bs → get_or bs j 0 < length flags
  body_in j m = ltb-true (get_or bs j 0) (length flags) (all_in (λ b. ltb b (length flags)) (get_or bs j 0) bs (get_or-mem bs j m) bodies_in_lem)

  -- the bit with it
  bit : (j busy : ℕ) → j < length bs → busy ≡ one (barred busies (take j bs)) → bit_or busy (get_or busies (get_or bs j 0) 0) ≡ one (barred busies (take (j + 1) bs))
  bit j busy m b = bit_next busies bs j busy m b (bits o v (get_or bs j 0) (body_in j m))

pub part-bodies-requires : goal.part-bodies-requires
part-bodies-requires c = omega (arith, c.from.ensures, c.requires.counted, next_in c.requires.opened c.walk.invariant (omega arith))

pub bounds-busy_bodies-from : goal.bounds-busy_bodies-from
bounds-busy_bodies-from c = omega (arith, body_in c.args.ends.bounds.now c.args.ends.endpoints.now c.requires.opened c.walk.invariant (omega arith) c.part-bodies.result.now (rw c.from.ensures at c.part-bodies.ensures) c.bodies.body-index (omega arith), c.walk.invariant.busy_length)

pub walk-preserved-then-predicted-busy : goal.walk-preserved-then-predicted-busy
walk-preserved-then-predicted-busy c =
    let o = c.requires.opened in
    let v = c.bodies.invariant in
    let bs = c.part-bodies.result.now in
    let p = c.walk.invariant in
    let l : c.walk.passed < c.args.count = omega arith in
    let b = barred c.walk.busy_bodies (take (c.bodies.body-index + 1) bs) in
    let hit : b ≡ true = sym (one-true b) ∙ ap (λ (x : ℕ). eqb x 1) (sym (bit c.args.ends.bounds.now c.args.ends.endpoints.now o p l bs (rw c.from.ensures at c.part-bodies.ensures) c.bodies.body-index c.bodies.busy (omega arith) v.2)) ∙ (rw c.from-in-bodies.ensures at (and_right (leb 8 c.args.color) _ c.if-predicted-busy.true)) in
    rw (v.0, v.1) (walk_left o p l bs (bodies_are c.args.ends.bounds.now c.args.ends.endpoints.now o p l bs (rw c.from.ensures at c.part-bodies.ensures)) (any-first (λ b. eqb (get_or c.walk.busy_bodies b 0) 1) (c.bodies.body-index + 1) bs hit) refl refl refl (λ b m. refl))

pub bodies-preserved : goal.bodies-preserved
bodies-preserved c =
    let v = c.bodies.invariant in
    (v.0, v.1, rw c.from-in-bodies.ensures (bit c.args.ends.bounds.now c.args.ends.endpoints.now c.requires.opened c.walk.invariant (omega arith) c.part-bodies.result.now (rw c.from.ensures at c.part-bodies.ensures) c.bodies.body-index c.bodies.busy (omega arith) v.2))

pub make_busy-requires-clause-busy_bodies_len : goal.make_busy-requires-clause-busy_bodies_len
make_busy-requires-clause-busy_bodies_len c =
    (c.walk.invariant.busy_length, bodies_in_lem c.args.ends.bounds.now c.args.ends.endpoints.now c.requires.opened c.walk.invariant (omega arith) c.part-bodies.result.now (rw c.from.ensures at c.part-bodies.ensures))

pub walk-preserved : goal.walk-preserved
walk-preserved c =
    let o = c.requires.opened in
    let v = c.bodies.invariant in
    let bs = c.part-bodies.result.now in
    let p = c.walk.invariant in
    let l : c.walk.passed < c.args.count = omega arith in
    let whole = rw (take_all c.bodies.body-index bs (omega arith)) at v.2 in
    rw (v.0, v.1, c.from-left.ensures, c.from-end.ensures) (walk_passed o p l bs c.bodies.busy (1 - c.bodies.busy) (bodies_are c.args.ends.bounds.now c.args.ends.endpoints.now o p l bs (rw c.from.ensures at c.part-bodies.ensures)) whole refl c.make_busy.auto.busy_bodies c.make_busy.ensures)

pub returns : goal.returns
returns c = walk_ends c.requires.opened c.walk.invariant (omega arith) (omega arith)
