-- `put_field`: the word, a space, and the number with its end, one behind the other.
use Rattle.std.proofs.Common.{arith, length-append, [], ◌∷◌}
use Rattle.writer.proofs.Writes.{wrote_then}
use Rattle.print_fields.proofs.Fields.{number_short}
use Rattle.print_fields.proofs.put_field.Goals as goal

pub returns : goal.returns
returns c =
    let a = c.args in
    let named = wrote_then c.put_word.ensures c.put_byte.ensures (omega (arith, c.requires)) in
    wrote_then named c.put_number.ensures (omega (arith, length-append a.word.now (32 ∷ []), number_short a.n a.end, c.requires))
