-- `largest`: a body more is passed; where a table is at its end, all are.
use Rattle.std.proofs.Common.{ℕ, ◌≡◌, sym, ap, ◌∙◌, arith, max, length, get_or, length-append, length-drop, ⊎_elim}
use Rattle.lists.specs.Basics.{max_of, range}
use Rattle.degrees.specs.Counts.{counted}
use Rattle.degrees.proofs.Counting.{largest_turn, entry_next, left_next, place_next}
use Rattle.degrees.proofs.largest.Goals as goal

pub loop-body_type-preserved : goal.loop-body_type-preserved
loop-body_type-preserved c =
    let i = c.loop-body_type.invariant in
    let ts = c.args.types.now in
    let cs = c.args.counts.now in
    let n = length c.loop-body_type.yielded in
    let et = sym i.types ∙ c.in-Some.ensures.steps.0 in
    let ec = sym i.counts ∙ c.in-Some.ensures.steps.1 in
    let more : counted (get_or ts n 0) (get_or cs n 0) ≡ c.degree_of.result = rw (entry_next ts _ n _ et, entry_next cs _ n _ ec) (sym c.degree_of.ensures) in
    rw (length-append c.loop-body_type.yielded _) (record {
      inside = omega (arith, place_next ts _ n _ et);
      types = left_next ts _ n _ et;
      counts = left_next cs _ n _ ec;
      most = largest_turn (λ b. counted (get_or ts b 0) (get_or cs b 0)) n _ _ i.most (c.max-most.ensures ∙ ap (max c.loop-body_type.most) (sym more));
    })

pub returns : goal.returns
returns c =
    let i = c.loop-body_type.invariant in
    let n = length c.loop-body_type.yielded in
    let all : n ≡ length c.args.types.now = ⊎_elim
    (λ h. omega (arith, i.inside, h.1.0, ap length i.types, length-drop n c.args.types.now))
    (λ h. omega (arith, i.inside, h.1.0, ap length i.counts, length-drop n c.args.counts.now, c.requires))
    c.in-None.ensures.steps in
    c.from.ensures ∙ i.most ∙ ap (λ (k : ℕ). max_of (λ b. counted (get_or c.args.types.now b 0) (get_or c.args.counts.now b 0)) (range k)) all
