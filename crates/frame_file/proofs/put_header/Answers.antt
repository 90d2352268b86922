-- `put_header`: its parts, one behind the other.
use Rattle.std.proofs.Common.{◌+◌, ◌*◌, ◌-◌, ◌≡◌, arith}
use Rattle.frame_file.specs.Written.{half_bytes, word_bytes, header_bytes}
use Rattle.writer.proofs.Writes.{wrote_then}
use Rattle.frame_file.proofs.put_header.Goals as goal

pub returns : goal.returns
unfolding half_bytes word_bytes header_bytes
returns c =
    let s = c.args.sizes in
    let rest : c.file_length.result - 5 ≡ 6 + s.bodies + 4 * s.manifolds + 5 * s.joints = omega (arith, c.file_length.ensures) in
    let one = wrote_then c.put_byte.ensures c.put_whole.ensures (omega arith) in
    let two = wrote_then one c.put_half.ensures (omega arith) in
    let three = wrote_then two c.put_half-2.ensures (omega arith) in
    rw (← rest) (wrote_then three c.put_half-3.ensures (omega arith))
