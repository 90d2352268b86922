-- The bodies passed are held if they are dynamic and the color fits.
use Rattle.std.proofs.Common.{take}
use Rattle.coloring.specs.Steps.{MadeBusy}
use Rattle.coloring.proofs.make_busy.Given as goal

abbrev pub invariant-loop-body : goal.invariant-loop-body
invariant-loop-body l = MadeBusy l.dynamic_bodies l.fits (take l.body-index l.bodies) l.initial.busy_bodies l.busy_bodies
