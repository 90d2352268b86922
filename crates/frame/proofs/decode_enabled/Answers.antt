-- `frame::decode_enabled`: one more byte is filled.
use Rattle.std.proofs.Common.{ℕ, ◌/◌, ◌≡◌, refl, sym, ap, ◌∙◌, List, ◌++◌, arith, length, take, length-set}
use Rattle.lists.proofs.Fills.{fill_turn, fill_end}
use Rattle.frame.specs.Files.{enabled_from}
use Rattle.frame.proofs.Decoding.{joint_long, enabled-next, enabled-end}
use Rattle.frame.proofs.decode_enabled.Goals as goal

pub loop-j-init : goal.loop-j-init
loop-j-init c =
    let n : length c.args.joints.now / 5 ≡ length c.args.enabled.now = omega (arith, c.requires) in
    rw (c.into_iter-j-iterator.ensures.into_iter_gives, c.enumerate-j-items.ensures.source, c.enumerate-j-items.ensures.count, c.chunks_exact.ensures.rest, c.chunks_exact.ensures.size)
    (record { size = refl; left = omega (arith, c.requires); long = refl; filled = ap (enabled_from c.args.joints.now 0) n })

pub bounds-enabled-j : goal.bounds-enabled-j
bounds-enabled-j c =
    let i = c.loop-j.invariant in
    let x = c.in-Some.ensures.steps in
    omega (arith, i.left, i.long, joint_long _ _ _ x.0.1.0 (x.0.1.1 ∙ i.size), x.1)

pub loop-j-preserved : goal.loop-j-preserved
loop-j-preserved c =
    let l = c.loop-j in
    let i = l.invariant in
    let x = c.in-Some.ensures.steps in
    let five = x.0.1.1 ∙ i.size in
    let long = joint_long _ _ _ x.0.1.0 five in
    record {
      size = x.0.0 ∙ i.size;
      left = omega (arith, i.left, long, x.2);
      long = simp length-set i.long;
      filled = rw (x.2, x.1) (fill_turn l.enabled _ _ l.j-iterator.count _ (omega (arith, i.left, i.long, long)) (ap (λ (ys : List ℕ). take l.j-iterator.count l.enabled ++ ys) (sym (enabled-next _ _ _ x.0.1.0 five)) ∙ i.filled));
    }

pub returns : goal.returns
returns c =
    let l = c.loop-j in
    let i = l.invariant in
    let x = c.in-None.ensures.steps in
    fill_end l.enabled _ l.j-iterator.count (omega (arith, i.left, i.long, i.size, x.0.1.0))
    (ap (λ (ys : List ℕ). take l.j-iterator.count l.enabled ++ ys) (sym (enabled-end _ (omega (arith, x.0.1.0, i.size)))) ∙ i.filled)
