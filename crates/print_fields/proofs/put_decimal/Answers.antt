-- `put_decimal`: the library's digits.
use Rattle.std.proofs.Common.{◌≡◌, ◌∙◌, ap, length, arith}
use Rattle.schedules.specs.Print.{decimal}
use Rattle.print_fields.proofs.Digits.{printed_decimal, decimal-few}
use Rattle.print_fields.proofs.put_decimal.Goals as goal

pub put_word-requires : goal.put_word-requires
put_word-requires c =
    let is : c.as_bytes-digits.result.now ≡ decimal c.args.n = c.as_bytes-digits.ensures.value ∙ c.format.ensures.text ∙ printed_decimal c.args.n c.ranges.n.fits in
    omega (arith, ap length is, decimal-few c.args.n, c.requires)

pub returns : goal.returns
returns c =
    let is : c.as_bytes-digits.result.now ≡ decimal c.args.n = c.as_bytes-digits.ensures.value ∙ c.format.ensures.text ∙ printed_decimal c.args.n c.ranges.n.fits in
    rw is at c.put_word.ensures
