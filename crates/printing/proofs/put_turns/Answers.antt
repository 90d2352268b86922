-- `put_turns`: each turn's line is put, or the gathering ends.
use Rattle.std.proofs.Common.{◌*◌, ◌∙◌, sym, refl, ap, arith, length, length-append, length-drop}
use Rattle.std.specs.Slice.Iter.{chunks_exact_rest}
use Rattle.writer.proofs.Writes.{same_then}
use Rattle.printing.proofs.Turns.{gather_first, gather_turn, gather_stop, gather_all, next_turn}
use Rattle.printing.proofs.put_turns.Goals as goal

pub loop-numbers-init : goal.loop-numbers-init
loop-numbers-init c =
    let a = c.args in
    let s = c.chunks_exact-numbers-items.ensures in
    rw (c.into_iter-numbers-iterator.ensures.into_iter_gives, s.rest, s.size)
    (record { same = record { long = refl; kept = refl }; lines = λ placed. gather_first a.frame.bytes.now a.turns.now a.first a.out.now; left = sym c.turns_from.ensures; three = refl })

pub turn_in-row-requires : goal.turn_in-row-requires
turn_in-row-requires c = c.in-Some.ensures.steps.1.1 ∙ c.loop-numbers.invariant.three

pub returns-then-not-put_turn-clause-same : goal.returns-then-not-put_turn-clause-same
returns-then-not-put_turn-clause-same c = same_then c.loop-numbers.invariant.same c.put_turn.ensures.same

pub returns-then-not-put_turn-clause-lines : goal.returns-then-not-put_turn-clause-lines
returns-then-not-put_turn-clause-lines c =
    let a = c.args in
    let l = c.loop-numbers in
    let s = c.in-Some.ensures.steps.1 in
    let three = s.1 ∙ l.invariant.three in
    let e = l.invariant.left ∙ s.0 in
    λ placed.
    let here = placed (omega (arith, ap length e, three, length-drop (3 * l.turn) a.turns.now, length-append c.in-Some.numbers.now (chunks_exact_rest c.next.new.self))) in
    gather_stop a.frame.bytes.now a.turns.now a.first a.out.now l.out l.turn (l.invariant.lines placed) c.turn_in-row.result _ _ e three c.turn_in-row.ensures _
    (c.put_turn.ensures.wrote here) (sym (c.put_turn.ensures.put here) ∙ c.if-not-put_turn.true)

pub overflow_add-turn : goal.overflow_add-turn
overflow_add-turn c =
    let a = c.args in
    let l = c.loop-numbers in
    let s = c.in-Some.ensures.steps.1 in
    omega (arith, ap length (l.invariant.left ∙ s.0), s.1, l.invariant.three, length-drop (3 * l.turn) a.turns.now, length-append c.in-Some.numbers.now (chunks_exact_rest c.next.new.self))

pub loop-numbers-preserved : goal.loop-numbers-preserved
loop-numbers-preserved c =
    let a = c.args in
    let l = c.loop-numbers in
    let s = c.in-Some.ensures.steps.1 in
    let three = s.1 ∙ l.invariant.three in
    let e = l.invariant.left ∙ s.0 in
    record {
      same = same_then l.invariant.same c.put_turn.ensures.same;
      lines = λ placed.
          let here = placed (omega (arith, ap length e, three, length-drop (3 * l.turn) a.turns.now, length-append c.in-Some.numbers.now (chunks_exact_rest c.next.new.self))) in
          gather_turn a.frame.bytes.now a.turns.now a.first a.out.now l.out l.turn (l.invariant.lines placed) c.turn_in-row.result _ _ e three c.turn_in-row.ensures _
          (c.put_turn.ensures.wrote here) (λ v. (here v).file) (sym (c.put_turn.ensures.put here) ∙ c.if-not-put_turn.false);
      left = sym (next_turn a.turns.now l.turn _ _ e three);
      three = c.in-Some.ensures.steps.0 ∙ l.invariant.three;
    }

pub returns-clause-same : goal.returns-clause-same
returns-clause-same c = c.loop-numbers.invariant.same

pub returns-clause-lines : goal.returns-clause-lines
returns-clause-lines c =
    let a = c.args in
    let l = c.loop-numbers in
    λ placed.
    gather_all a.frame.bytes.now a.turns.now a.first a.out.now l.out l.turn (l.invariant.lines placed) (omega (arith, ap length l.invariant.left, l.invariant.three, c.in-None.ensures.steps.1))
