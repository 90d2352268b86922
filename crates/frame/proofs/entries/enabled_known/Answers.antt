-- `frame::entries::enabled_known`: the next entry lies inside the file, since the walk passes; its byte decides, or is passed by.
use Rattle.std.proofs.Common.{◌+◌, ◌-◌, ◌*◌, ◌≡◌, sym, ◌∙◌, arith}
use Rattle.frame.specs.Files.{entry_end}
use Rattle.frame.proofs.Walks.{walk_next, live_stop, live_turn, live_end}
use Rattle.frame.proofs.entries.enabled_known.Goals as goal

pub returns-then-part-at-gt1 : goal.returns-then-part-at-gt1
returns-then-part-at-gt1 c = sym (live_stop c.args.part.bytes.now c.loop-j.at (c.args.part.joints - c.loop-j._j) (omega arith) c.if-part-at-gt1.true) ∙ c.loop-j.invariant.known

pub loop-j-preserved : goal.loop-j-preserved
loop-j-preserved c =
    let bs = c.args.part.bytes.now in
    let l = c.loop-j in
    let left = c.args.part.joints - l._j in
    let next : l.at + (2 + 2 * c.from.result) ≡ entry_end bs l.at = omega (arith, c.from.ensures) in
    let less : left - 1 ≡ c.args.part.joints - (l._j + 1) = omega arith in
    record {
      walked = rw (← less) (walk_next bs l.at left _ (omega arith) l.invariant.walked next);
      known = rw (← less) (live_turn bs l.at left _ (omega arith) next c.if-part-at-gt1.false ∙ l.invariant.known);
    }

pub returns : goal.returns
returns c = sym (live_end c.args.part.bytes.now c.loop-j.at (c.args.part.joints - c.loop-j._j) (omega arith)) ∙ c.loop-j.invariant.known
