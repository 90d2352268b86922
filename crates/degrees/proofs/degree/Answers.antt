-- `degree`: from cleared counts, manifolds and then joints are counted on each body; the largest over those that make conflicts is D.
use Rattle.std.proofs.Common.{◌∙◌, rules}
use Rattle.frame.specs.Asked.{frame_asked}
use Rattle.degrees.specs.Counts.{Countable}
use Rattle.degrees.proofs.Counting.{manifolds_countable, joints_countable, degree_largest}
use Rattle.degrees.proofs.degree.Goals as goal

pub count_each-requires : goal.count_each-requires
count_each-requires c =
    let f = frame_asked c.args.lists in
    let h : Countable f.types f.manifolds c.fill.new.self = manifolds_countable f _ c.requires.0 c.requires.1 c.requires.2 _ (c.fill.ensures.after (λ y e. e)) in
    search rules

pub count_joints-requires : goal.count_joints-requires
count_joints-requires c =
    joints_countable (frame_asked c.args.lists) _ c.requires.0 c.requires.1 c.requires.2 _ (c.fill.ensures.after (λ y e. e)) _ c.count_each.auto.counts c.count_each.ensures

pub returns : goal.returns
returns c = c.largest.ensures ∙ degree_largest (frame_asked c.args.lists) _ c.requires.0 c.requires.1 c.requires.2 _ (c.fill.ensures.after (λ y e. e)) _ c.count_each.auto.counts c.count_each.ensures _ c.count_joints.ensures
