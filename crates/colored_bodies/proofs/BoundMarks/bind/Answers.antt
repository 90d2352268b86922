-- The marks and the count are those of the whole bind; the table is cleared first.
use Rattle.std.proofs.Common.{refl, ap, ◌∙◌}
use Rattle.colored_bodies.specs.declared.BodyBinding.{BodyBinding}
use Rattle.colored_bodies.proofs.Fills.{fillable, bound_is}
use Rattle.colored_bodies.proofs.BoundMarks.bind.Goals as goal

pub mark_bodies-requires : goal.mark_bodies-requires
mark_bodies-requires c = (fillable _ _ _ _ c.known_refusal.ensures c.listed-bodies.ensures, refl)

pub returns : goal.returns
returns c =
    let bound = bound_is _ _ _ _ c.known_refusal.ensures c.listed-bodies.ensures in
    record { count = ap (λ (b : BodyBinding). b.count) bound; marks = c.mark_bodies.ensures ∙ ap (λ (b : BodyBinding). b.marks) bound; kept = refl }
