-- `stamp_body`: a body counts if its stamp was another.
use Rattle.gathering.proofs.Counts.{counted-one}
use Rattle.gathering.proofs.stamp_body.Goals as goal

pub returns : goal.returns
returns c = rw c.from-place.ensures (counted-one c.args.stamp c.args.body_stamps.now c.args.body)
