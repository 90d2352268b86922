-- `frame::entries::decode_halves`: one more number is filled.
use Rattle.std.proofs.Common.{ℕ, ◌+◌, ◌-◌, ◌*◌, ◌≡◌, sym, ap, ◌∙◌, List, ◌++◌, arith, length, take}
use Rattle.lists.proofs.Fills.{fill_turn, fill_end}
use Rattle.frame.specs.Files.{halves_from}
use Rattle.frame.proofs.Walks.{halves_next, halves_none}
use Rattle.frame.proofs.entries.decode_halves.Goals as goal

pub loop-k-preserved : goal.loop-k-preserved
loop-k-preserved c =
    let l = c.loop-k in
    let bs = c.args.bytes.now in
    let at = c.args.from + 2 * l.k in
    let left = length c.args.halves.now - l.k in
    let next : at + 2 ≡ c.args.from + 2 * (l.k + 1) = omega arith in
    let less : left - 1 ≡ length c.args.halves.now - (l.k + 1) = omega arith in
    rw (← next, ← less) (fill_turn l.halves (halves_from bs (at + 2) (left - 1)) _ l.k c.half_at.result (omega arith)
    (rw (c.half_at.ensures) (ap (λ (xs : List ℕ). take l.k l.halves ++ xs) (sym (halves_next bs at left (omega arith))) ∙ l.invariant)))

pub returns : goal.returns
returns c =
    let l = c.loop-k in
    fill_end l.halves _ l.k (omega arith)
    (ap (λ (xs : List ℕ). take l.k l.halves ++ xs) (sym (halves_none c.args.bytes.now (c.args.from + 2 * l.k) (length c.args.halves.now - l.k) (omega arith))) ∙ l.invariant)
