-- `frame::multi::counts_known`: what is known of the counts passed, with one count more.
use Rattle.std.proofs.Common.{◌≡◌, refl, subst, rules}
use Rattle.std.proofs.lemmas.Fn.{fold_over, slice_gives, fronts}
use Rattle.frame.specs.Frames.{counted, counts_known}
use Rattle.frame.proofs.Questions.{all_more}
use Rattle.frame.proofs.multi.counts_known.Goals as goal

pub returns : goal.returns
returns c = subst (λ l. c.fold.result ≡ counts_known l) c.iter.ensures.rest
    (fold_over fronts (λ y. y.now) _ (λ ys known. known ≡ counts_known ys) _
    (λ ys known x more f' j k. let both = all_more counted ys x.now in search rules)
    _ _ _ _ (slice_gives c.iter.result) refl c.fold.ensures.ran)
