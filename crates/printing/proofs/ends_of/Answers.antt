-- `printing::ends_of` meets its contract: the place of a joint's entry stands in the table, and the entry inside the file.
use Rattle.std.proofs.Common.{ℕ, arith, ap, ◌≡◌, ◌∙◌, ◌+◌, ◌-◌, sym, true, get_or}
use Rattle.frame.specs.Files.{byte, count_at, ends_at, second}
use Rattle.printing.specs.Turns.{EndsStand}
use Rattle.printing.proofs.Turns.{first_stands, manifold_stands, place_stands}
use Rattle.printing.proofs.ends_of.Goals.{then-is_second+else-manifolds-constraint, else-is_second}
use Rattle.printing.proofs.ends_of.Goals as goal

pub returns-then-manifolds-constraint : goal.returns-then-manifolds-constraint
returns-then-manifolds-constraint c =
    λ here placed.
    let a = c.args in
    let bs = a.frame.bytes.now in
    let m = c.half_or_zero-manifolds in
    let v : second bs ≡ true = sym c.is_second.ensures ∙ c.if-is_second.true in
    let place = get_or a.frame.places.now (a.constraint - m.result) 0 in
    let place_is : c.from-place.result ≡ place = c.from-place.ensures ∙ c.entry_or.ensures in
    let e = place_stands bs a.constraint a.frame.places.now (placed v) here v (omega (arith, m.ensures.0, c.if-manifolds-constraint.true)) in
    let stands : EndsStand bs a.constraint (place + 2) (count_at bs place) = rw (← m.ensures.0) at e in
    let b = c.byte_or_zero in
    let b_is : b.result ≡ count_at bs place = b.ensures.0 ∙ ap (λ (s : ℕ). byte bs (s + 1)) place_is in
    let count_is : c.two_to_four.result ≡ count_at bs place = c.two_to_four.ensures.kept (omega (arith, b_is, stands.least)) (omega (arith, b_is, stands.most)) ∙ b_is in
    rw (place_is, count_is) stands

pub returns : goal.returns
returns c =
    λ here placed.
    let a = c.args in
    let bs = a.frame.bytes.now in
    let e = c.ends_at in
    let stands : EndsStand bs a.constraint (ends_at bs a.constraint) 2 = elim c.if-is_second.branch [
      | then-is_second+else-manifolds-constraint w ↦ manifold_stands bs a.constraint (omega (arith, w.half_or_zero-manifolds.ensures.0, w.if-manifolds-constraint.false))
      | else-is_second w ↦ first_stands bs a.constraint here (sym c.is_second.ensures ∙ w.if-is_second.false)
    ] in
    rw e.ensures.0 stands
