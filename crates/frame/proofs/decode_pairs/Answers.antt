-- `frame::decode_pairs`: one more pair is filled.
use Rattle.std.proofs.Common.{ℕ, suc, ◌+◌, ◌-◌, ◌*◌, ◌/◌, ◌≡◌, sym, ap, ◌∙◌, List, ◌++◌, arith, length, take}
use Rattle.lists.proofs.Fills.{fill_end}
use Rattle.frame.proofs.Decoding.{pairs_none, room_next, pair_turn}
use Rattle.frame.proofs.decode_pairs.Goals as goal

pub loop-k-preserved : goal.loop-k-preserved
loop-k-preserved c =
    let l = c.loop-k in
    let a = c.args in
    let n = length a.pairs.now / 2 in
    let e : n - l.k ≡ suc (n - (l.k + 1)) = omega arith in
    let two : 2 * l.k + 2 ≡ 2 * (l.k + 1) = omega arith in (
      room_next l.at a.step (n - l.k) (n - (l.k + 1)) (length a.bytes.now) e l.invariant.0,
      rw (← two) (pair_turn a.bytes.now l.pairs _ l.at a.step (n - l.k) (n - (l.k + 1)) (2 * l.k) _ _ (omega arith) e c.half_at.ensures c.half_at-in-loop-k.ensures l.invariant.1),
    )

pub returns : goal.returns
returns c =
    let l = c.loop-k in
    let a = c.args in
    fill_end l.pairs _ (2 * l.k) (omega arith)
    (ap (λ (xs : List ℕ). take (2 * l.k) l.pairs ++ xs) (sym (pairs_none a.bytes.now l.at a.step (length a.pairs.now / 2 - l.k) (omega arith))) ∙ l.invariant.1)
