-- A frame as a call is lent it: types, endpoint pairs of manifolds, and the joints' endpoints, counts and enabled bytes.
use Rattle.frame.specs.declared.Lists.{Lists}
use Rattle.frame.specs.Frames.{Frame, frame_with}

abbrev pub frame_in : Lists → Frame
frame_in l = frame_with l.types.now l.manifolds.now l.joint_ends.now l.joint_counts.now l.enabled.now
