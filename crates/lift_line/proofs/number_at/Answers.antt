-- `number_at`: a digit more, or none.
use Rattle.std.proofs.Common.{sym, ◌∙◌, arith}
use Rattle.lift_line.proofs.Tests.{ascii_is}
use Rattle.lift_line.proofs.Numbers.{read_first, read_none, read_fits, read_turn}
use Rattle.lift_line.proofs.number_at.Goals as goal

pub loop-read-init : goal.loop-read-init
loop-read-init c = read_first c.args.text.now c.args.at (omega arith)

pub returns-then-not-is_ascii_digit : goal.returns-then-not-is_ascii_digit
returns-then-not-is_ascii_digit c =
    read_none _ _ _ _ c.loop-read.invariant _ c.entry_or-byte.ensures (sym (c.if-not-is_ascii_digit.ensures.value ∙ ascii_is c.entry_or-byte.result))

pub overflow_mul-value : goal.overflow_mul-value
overflow_mul-value c =
    omega (arith, (read_fits _ _ _ _ c.loop-read.invariant _ c.entry_or-byte.ensures (sym (c.if-not-is_ascii_digit.ensures.value ∙ ascii_is c.entry_or-byte.result)) c.loop-read-test.true).2)

pub overflow_add-value : goal.overflow_add-value
overflow_add-value c =
    omega (arith, (read_fits _ _ _ _ c.loop-read.invariant _ c.entry_or-byte.ensures (sym (c.if-not-is_ascii_digit.ensures.value ∙ ascii_is c.entry_or-byte.result)) c.loop-read-test.true).2)

pub loop-read-preserved : goal.loop-read-preserved
loop-read-preserved c =
    rw c.from.ensures (read_turn _ _ _ _ c.loop-read.invariant _ c.entry_or-byte.ensures (sym (c.if-not-is_ascii_digit.ensures.value ∙ ascii_is c.entry_or-byte.result)) c.loop-read-test.true (omega arith))
