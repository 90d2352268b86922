-- Each body on the way has the root of `body`, and each link followed is one less to go.
use Rattle.std.proofs.Common.{◌≡◌, nat_eq, get_or, sym, ◌∙◌, arith, not}
use Rattle.lists.proofs.Bits.{byte_one}
use Rattle.island_sets.specs.Sets.{links_of}
use Rattle.island_sets.proofs.Links.{links_le}
use Rattle.island_sets.proofs.Weights.{bound_told}
use Rattle.island_sets.proofs.Ways.{read_inside, read_root, read_links, first-link, read_here, read_last}
use Rattle.island_sets.proofs.root_of.Goals as goal

pub loop-root-init : goal.loop-root-init
loop-root-init c =
    let p = c.args.parents.now in
    let b = c.args.body in (
      rw c.from-root.ensures (read_inside p c.requires.0 b c.requires.1),
      rw c.from-root.ensures (read_root p c.requires.0 b c.requires.1),
      rw (c.from-links.ensures, c.from-root.ensures) (omega (arith, byte_one (not (nat_eq (get_or p b 0) b)), first-link p c.requires.0 b c.requires.1)),
    )

pub overflow_add-links : goal.overflow_add-links
overflow_add-links c =
    omega (arith, c.loop-root.invariant.2, links_le c.args.parents.now c.args.body, c.requires.0.1.few)

pub loop-root-smaller : goal.loop-root-smaller
loop-root-smaller c =
    rw c.from-parent.ensures (omega (arith, read_links c.args.parents.now c.requires.0 c.loop-root.root c.loop-root.invariant.0 (rw c.from-parent.ensures at c.if-parent-root.false)))

pub loop-root-preserved : goal.loop-root-preserved
loop-root-preserved c =
    let p = c.args.parents.now in
    let l = c.loop-root in (
      rw c.from-parent.ensures (read_inside p c.requires.0 l.root l.invariant.0),
      rw c.from-parent.ensures (read_root p c.requires.0 l.root l.invariant.0 ∙ l.invariant.1),
      rw c.from-parent.ensures (omega (arith, l.invariant.2, read_links p c.requires.0 l.root l.invariant.0 (rw c.from-parent.ensures at c.if-parent-root.false))),
    )

pub returns : goal.returns
returns c =
    let p = c.args.parents.now in
    let l = c.loop-root in
    let last = rw c.from-parent.ensures at c.if-parent-root.true in
    let e : l.links ≡ links_of p c.args.body = omega (arith, l.invariant.2, read_last p l.root l.invariant.0 last) in
    record {
      root = sym (read_here p l.root l.invariant.0 last) ∙ l.invariant.1;
      links = e;
      bound = bound_told p c.requires.0 c.args.body l.links c.requires.1 e;
    }
