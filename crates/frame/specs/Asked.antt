-- The lists of a frame whose lengths were asked: the constraints that they lend.
use Rattle.std.specs.Prelude.{List}
use Rattle.frame.specs.declared.asked.Joints.{Joints}
use Rattle.frame.specs.declared.asked.Joints.TheVariants.{Paired, WithCounts}
use Rattle.frame.specs.declared.asked.AskedLists.{AskedLists}
use Rattle.frame.specs.Frames.{Constraint, Frame, constraints_of, counted_of}

-- the joints, by either way in which they are lent
abbrev pub joints_in : Joints → List Constraint
joints_in (Paired p) = constraints_of p.pairs.now p.enabled.now
joints_in (WithCounts c) = counted_of c.counts.now c.ends.now c.enabled.now

abbrev pub frame_asked : AskedLists → Frame
frame_asked l = record {
  types = l.types.now;
  manifolds = constraints_of l.manifolds.pairs.now l.manifolds.enabled.now;
  joints = joints_in l.joints;
}
