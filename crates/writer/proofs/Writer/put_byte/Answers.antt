-- `put_byte`: a store is a put of one byte.
use Rattle.std.proofs.Common.{refl, length-set, arith}
use Rattle.lists.proofs.Puts.{set-put}
use Rattle.writer.proofs.Writer.put_byte.Goals as goal

pub returns : goal.returns
returns c = let s = c.args.self.now in record {
  bytes = set-put s.at c.args.byte s.out.now c.requires;
  next = refl;
  within = λ h. omega (arith, length-set s.out.now s.at c.args.byte, c.requires);
  long = length-set s.out.now s.at c.args.byte;
  kept = refl;
}
