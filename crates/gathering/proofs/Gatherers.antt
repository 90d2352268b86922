-- Tables that stay the same.
use Rattle.std.proofs.Common.{refl, ◌∙◌}
use Rattle.gathering.specs.Gatherers.{SameGatherer}
use Rattle.gathering.specs.declared.Gatherer.{Gatherer}

pub same_self : (g : Gatherer) → SameGatherer g g
same_self g = record { body_stamps = refl; color_bodies = refl; scratch_offsets = refl; stamps_long = refl; bodies_long = refl; scratch_long = refl }

pub same_then : {f g h : Gatherer} → SameGatherer f g → SameGatherer g h → SameGatherer f h
same_then v w =
    record {
      body_stamps = w.body_stamps ∙ v.body_stamps;
      color_bodies = w.color_bodies ∙ v.color_bodies;
      scratch_offsets = w.scratch_offsets ∙ v.scratch_offsets;
      stamps_long = w.stamps_long ∙ v.stamps_long;
      bodies_long = w.bodies_long ∙ v.bodies_long;
      scratch_long = w.scratch_long ∙ v.scratch_long;
    }
