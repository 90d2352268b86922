-- A body that is read lies below the table's length, and differs from those before it.
use Rattle.std.proofs.Common.{arith}
use Rattle.locating.proofs.Places.{body_below, placing_more, placing_done}
use Rattle.locating.proofs.list_places.Goals as goal

pub loop-place-preserved : goal.loop-place-preserved
loop-place-preserved c = rw c.from.ensures (placing_more c.loop-place.invariant c.requires.1 (omega arith) (body_below c.loop-place.invariant c.requires.2 (omega arith)))

pub returns : goal.returns
returns c = placing_done c.loop-place.invariant (omega arith)
