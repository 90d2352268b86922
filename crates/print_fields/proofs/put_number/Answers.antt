-- `put_number`: the digits, then the end behind them.
use Rattle.std.proofs.Common.{arith}
use Rattle.writer.proofs.Writes.{wrote_then}
use Rattle.print_fields.proofs.Digits.{decimal-few}
use Rattle.print_fields.proofs.put_number.Goals as goal

pub put_byte-requires : goal.put_byte-requires
put_byte-requires c = let w = c.put_decimal.ensures in omega (arith, w.next, w.long, decimal-few c.args.n, c.requires)

pub returns : goal.returns
returns c = wrote_then c.put_decimal.ensures c.put_byte.ensures (omega (arith, decimal-few c.args.n, c.requires))
