-- `frame::at_most`: what is known of the bytes passed, with one byte more.
use Rattle.std.proofs.Common.{◌≡◌, refl, subst, leb, rules}
use Rattle.std.proofs.lemmas.Fn.{fold_over, slice_gives, fronts}
use Rattle.lists.specs.Basics.{all}
use Rattle.frame.proofs.Questions.{all_more}
use Rattle.frame.proofs.at_most.Goals as goal

pub returns : goal.returns
returns c = subst (λ l. c.fold.result ≡ all (λ x. leb x c.args.limit) l) c.iter.ensures.rest
    (fold_over fronts (λ y. y.now) _ (λ ys known. known ≡ all (λ x. leb x c.args.limit) ys) _
    (λ ys known x more f' j k. let both = all_more (λ y. leb y c.args.limit) ys x.now in search rules)
    _ _ _ _ (slice_gives c.iter.result) refl c.fold.ensures.ran)
