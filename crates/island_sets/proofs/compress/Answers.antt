-- A link set to the root of its body changes no root, and the way goes on from where the link led before, with one link less to go.
use Rattle.std.proofs.Common.{ℕ, List, ◌<◌, ◌≡◌, length, get_or, set, sym, ap, ◌∙◌, arith}
use Rattle.island_sets.specs.Sets.{root_of}
use Rattle.island_sets.specs.Steps.{Balanced, Shortened}
use Rattle.island_sets.proofs.Weights.{shortened, shortened_then}
use Rattle.island_sets.proofs.Ways.{read_inside, read_root, way_start, way_less, way_on}
use Rattle.island_sets.proofs.compress.Goals as goal

-- once `start` is linked to the root
first : (p : List ℕ) (start root : ℕ) → Balanced p × (start < length p) × (root ≡ root_of p start) → Shortened p (set p start root)
first p start root h = shortened p h.0 start root h.1 h.2

balanced : (p : List ℕ) (start root : ℕ) → Balanced p × (start < length p) × (root ≡ root_of p start) → Balanced (set p start root)
balanced p start root h = (h.0.0, (first p start root h).sets h.0.0 h.0.1)

pub loop-body-init : goal.loop-body-init
loop-body-init c =
    let p = c.args.parents.now in
    let b = c.args.start in
    let f = first p b c.args.root c.requires in
    rw (c.from.ensures, c.from-2.ensures) (way_start (set p b c.args.root) c.args.root (get_or p b 0) (omega (arith, f.long, read_inside p c.requires.0 b c.requires.1))
    (c.requires.2 ∙ sym (read_root p c.requires.0 b c.requires.1) ∙ ap (λ (g : ℕ → ℕ). g (get_or p b 0)) (sym f.roots)))

pub loop-body-smaller : goal.loop-body-smaller
loop-body-smaller c =
    let a = c.args in
    let l = c.loop-body in
    let less = way_less (set a.parents.now a.start a.root) (balanced a.parents.now a.start a.root c.requires) a.root l.parents l.body (rw c.from-2.ensures at l.invariant) c.loop-body-test.true in
    rw (c.from-2.ensures, c.from-in-loop-body.ensures) (omega (arith, less))

pub loop-body-preserved : goal.loop-body-preserved
loop-body-preserved c =
    let a = c.args in
    let l = c.loop-body in
    rw (c.from-2.ensures, c.from-in-loop-body.ensures, c.from-in-loop-body-2.ensures) (way_on (set a.parents.now a.start a.root) (balanced a.parents.now a.start a.root c.requires) a.root l.parents l.body (rw c.from-2.ensures at l.invariant) c.loop-body-test.true)

pub returns : goal.returns
returns c =
    let a = c.args in
    shortened_then a.parents.now (set a.parents.now a.start a.root) c.loop-body.parents (first a.parents.now a.start a.root c.requires) (rw c.from-2.ensures at c.loop-body.invariant).short
