-- `frame::live_known`: version 1's joints fill the rest of the file.
use Rattle.std.proofs.Common.{sym, ap, ◌∙◌}
use Rattle.frame.specs.Questions.{bits}
use Rattle.frame.proofs.Files.{live-first, second_by_version}
use Rattle.std.proofs.lemmas.List.{take_rest}
use Rattle.frame.proofs.live_known.Goals as goal

pub returns-in-First : goal.returns-in-First
returns-in-First c =
    let h = c.requires.passed.placed in
    let bs = c.args.part.bytes.now in
    let v = second_by_version bs _ (sym c.in-First.is ∙ c.requires.version) in
    c.enabled_known-in-First.ensures ∙ ap bits (live-first bs _ c.args.part.from h.head v c.requires.passed.walked h.place (take_rest bs c.args.part.from))
