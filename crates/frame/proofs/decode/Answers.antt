-- `frame::decode`: an accepted file has its types.
use Rattle.std.proofs.Common.{arith}
use Rattle.frame.proofs.Files.{file_sized}
use Rattle.frame.proofs.decode.Goals as goal

pub decode_bodies-requires-clause-types : goal.decode_bodies-requires-clause-types
decode_bodies-requires-clause-types c = omega (arith, (file_sized c.args.bytes.now c.requires.file).bytes, c.requires.types)
