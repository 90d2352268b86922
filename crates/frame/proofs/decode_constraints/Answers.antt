-- `frame::decode_constraints`: the manifolds of either version, and then the joints of the file's version.
use Rattle.std.proofs.Common.{◌+◌, ◌*◌, sym, ◌∙◌, arith}
use Rattle.frame.proofs.Files.{file_sized}
use Rattle.std.proofs.lemmas.List.{take_rest}
use Rattle.frame.proofs.Decodes.{front_long, entries-ready, pairs_ready, enabled-ready, first_decoded, second_decoded}
use Rattle.frame.proofs.decode_constraints.Goals as goal

pub decode_pairs-requires : goal.decode_pairs-requires
decode_pairs-requires c =
    let long = front_long _ _ _ _ _ c.requires in
    let s = file_sized c.args.bytes.now c.requires.file in
    (omega arith, omega (arith, long, s.bytes, c.requires.manifolds, (c.from-first.ensures ∙ c.half_at.ensures)), omega (arith, long))

pub decode-requires : goal.decode-requires
decode-requires c =
    entries-ready _ _ _ _ _ c.requires _ _ (c.from-first.ensures ∙ c.half_at.ensures) c.decode_pairs.ensures c.decode_pairs.auto.pairs (sym c.is_second.ensures ∙ c.if-is_second.true) _ c.fill_twos.ensures c.fill_twos.auto.counts

pub decode_pairs-requires-2 : goal.decode_pairs-requires-2
decode_pairs-requires-2 c =
    let ready = pairs_ready _ _ _ _ _ c.requires _ _ (c.from-first.ensures ∙ c.half_at.ensures) c.decode_pairs.ensures c.decode_pairs.auto.pairs (sym c.is_second.ensures ∙ c.if-is_second.false) in
    (omega arith, ready.0, ready.1)

pub decode_enabled-requires : goal.decode_enabled-requires
decode_enabled-requires c =
    enabled-ready _ _ _ _ _ c.requires _ _ (c.from-first.ensures ∙ c.half_at.ensures) c.decode_pairs.ensures c.decode_pairs.auto.pairs (sym c.is_second.ensures ∙ c.if-is_second.false) _ (take_rest c.args.bytes.now (11 + c.from-first.result + 4 * c.args.manifolds))

pub returns-then-is_second : goal.returns-then-is_second
returns-then-is_second c =
    second_decoded _ _ _ _ _ c.requires _ _ (c.from-first.ensures ∙ c.half_at.ensures) c.decode_pairs.ensures c.decode_pairs.auto.pairs (sym c.is_second.ensures ∙ c.if-is_second.true) _ c.fill_twos.ensures c.fill_twos.auto.counts _ _ _ c.decode.ensures

pub returns : goal.returns
returns c =
    first_decoded _ _ _ _ _ c.requires _ _ (c.from-first.ensures ∙ c.half_at.ensures) c.decode_pairs.ensures c.decode_pairs.auto.pairs (sym c.is_second.ensures ∙ c.if-is_second.false) _ (take_rest c.args.bytes.now (11 + c.from-first.result + 4 * c.args.manifolds)) _ _ c.decode_pairs-2.ensures c.decode_enabled.ensures
