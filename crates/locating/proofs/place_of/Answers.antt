-- `place_of`: the body stands in the list. `position` answers its place, which fits 16 bits; of more than 4 bodies the table has it.
use Rattle.std.proofs.Common.{arith, ltb, length, ltb-true}
use Rattle.lists.proofs.Laws.{all_in, place-lt}
use Rattle.locating.proofs.place_of.Goals as goal

pub overflow_cast-result : goal.overflow_cast-result
overflow_cast-result c = omega (arith, c.position.ensures, c.requires.0, place-lt c.args.body c.args.bodies.now c.requires.2)

pub bounds-places-from : goal.bounds-places-from
bounds-places-from c = let n = length c.args.places.now in rw c.from.ensures (ltb-true c.args.body n (all_in (λ b. ltb b n) c.args.body c.args.bodies.now c.requires.2 c.requires.3.below))
