-- `ends_read`: the library's sum is that of the counts as they are read.
use Rattle.std.proofs.Common.{◌≡◌, refl, rules, sym, ◌∙◌, List, ℕ, map}
use Rattle.std.specs.List.{sum_by}
use Rattle.std.proofs.lemmas.List.Recursion.{is_sum_by}
use Rattle.frame.specs.Frames.{end_count}
use Rattle.multi_coloring.specs.Counts.{count_read}
use Rattle.multi_coloring.proofs.ends_read.Goals as goal

pub returns : goal.returns
returns c =
    let e : c.sum.result ≡ sum_by count_read c.args.counts.now = search rules in
    e ∙ sym (is_sum_by (λ (xs : List ℕ). end_count (map count_read xs)) count_read refl (λ _ _. refl) c.args.counts.now)
