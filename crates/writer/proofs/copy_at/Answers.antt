-- `copy_at`: the copied part, and what stands before and behind it.
use Rattle.std.proofs.Common.{◌+◌, ◌-◌, ◌∙◌, length, arith}
use Rattle.std.proofs.lemmas.Slice.{put_mid-paste}
use Rattle.writer.proofs.Writes.{paste-put}
use Rattle.writer.proofs.copy_at.Goals as goal

pub returns : goal.returns
returns c =
    let a = c.args in
    let n = length a.word.now in
    put_mid-paste a.at (a.at + n - a.at) a.out.now c.copy_from_slice.new.self a.word.now n c.copy_from_slice.ensures.after (omega arith) (omega arith)
    ∙ paste-put a.out.now a.at a.word.now n (omega arith)
