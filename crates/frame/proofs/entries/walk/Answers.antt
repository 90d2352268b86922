-- `frame::entries::walk`: each entry that passes is one turn of the walk, and one that is refused its end.
use Rattle.std.proofs.Common.{◌≡◌, ◌+◌, ◌*◌, ◌-◌, sym, ◌∙◌, arith}
use Rattle.std.proofs.lemmas.Result.{err_from_is_err_and}
use Rattle.frame.specs.Files.{entry_end}
use Rattle.frame.proofs.Walks.{whole, walk_stop, walk_turn, walk_over, walk_early, ends-next_long, ends-none_long}
use Rattle.frame.proofs.Answered.{numbered}
use Rattle.frame.proofs.entries.walk.Goals as goal

pub returns-in_err-ask : goal.returns-in_err-ask
returns-in_err-ask c =
    let p = err_from_is_err_and c.from_residual.result c.from_residual.ensures.1 in
    rw (p.1, p.2) (record {
      refusal = walk_early c.args.part.bytes.now c.args.part.from c.args.part.joints _ c.in_err-ask.ensures (numbered c.in_err-ask.field-0.0);
      ends = tt;
    })

pub returns-in_err-ask_entry : goal.returns-in_err-ask_entry
returns-in_err-ask_entry c =
    let p = err_from_is_err_and c.from_residual-in_err-ask_entry.result c.from_residual-in_err-ask_entry.ensures.1 in
    rw (p.1, p.2) (record {
      refusal = walk_stop c.args.part.bytes.now c.loop-j.at (c.args.part.joints - c.loop-j._j) _ (omega arith) c.in_err-ask_entry.ensures (numbered c.in_err-ask_entry.field-0.0) ∙ c.loop-j.invariant.refusal;
      ends = tt;
    })

pub returns-in_err-ask-2 : goal.returns-in_err-ask-2
returns-in_err-ask-2 c =
    let p = err_from_is_err_and c.from_residual-in_err-ask-2.result c.from_residual-in_err-ask-2.ensures.1 in
    rw (p.1, p.2) (record {
      refusal = walk_over c.args.part.bytes.now c.loop-j.at (c.args.part.joints - c.loop-j._j) _ (omega arith) c.in_err-ask-2.ensures ∙ c.loop-j.invariant.refusal;
      ends = tt;
    })

pub bounds-part-at : goal.bounds-part-at
bounds-part-at c = let w = whole c.args.part.bytes.now c.loop-j.at (sym c.in_ok-ask_entry.ensures) in omega (arith, w.begun)

pub loop-j-preserved : goal.loop-j-preserved
loop-j-preserved c =
    let bs = c.args.part.bytes.now in
    let l = c.loop-j in
    let left = c.args.part.joints - l._j in
    let passes = sym c.in_ok-ask_entry.ensures in
    let w = whole bs l.at passes in
    let next : l.at + (2 + 2 * c.from-count.result) ≡ entry_end bs l.at = omega (arith, c.from-count.ensures) in
    let less : left - 1 ≡ c.args.part.joints - (l._j + 1) = omega arith in
    record {
      inside = omega (arith, w.ended, c.from-count.ensures);
      few = omega (arith, l.invariant.few);
      refusal = rw (← less) (walk_turn bs l.at left _ (omega arith) passes next ∙ l.invariant.refusal);
      ends = rw (← less) (omega (arith, l.invariant.ends, ends-next_long bs l.at left _ (omega arith) next, c.from-count.ensures));
    }

pub returns : goal.returns
returns c =
    let bs = c.args.part.bytes.now in
    let l = c.loop-j in
    let left = c.args.part.joints - l._j in
    record {
      refusal = walk_over bs l.at left 0 (omega arith) c.in_ok-ask-2.ensures ∙ l.invariant.refusal;
      ends = omega (arith, l.invariant.ends, ends-none_long bs l.at left (omega arith));
    }
