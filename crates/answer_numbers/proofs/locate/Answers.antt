-- `locate`: each place by its number.
use Rattle.std.proofs.Common.{ℕ, refl, ap, ◌∙◌, get_or, rules}
use Rattle.answer_numbers.specs.Numbers.{placed}
use Rattle.answer_numbers.proofs.Places.{made_list, found_in}
use Rattle.answer_numbers.proofs.locate.Goals as goal

pub returns : goal.returns
returns g c = (
  c.refusal_number.ensures,
  made_list _ (λ (k : ℕ). get_or c.unwrap_or-found.result.now k 0) _ (λ k y q called. search rules) _ _ c.from_fn.ensures.items
      ∙ ap (placed g.row.N) (found_in c.args.answer _ _ refl c.unwrap_or-found.ensures),
)
