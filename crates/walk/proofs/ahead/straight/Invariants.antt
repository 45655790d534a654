-- `walk::ahead::straight` meets its contract. The loop's invariant: the path from here stops where the path from the start does, and the mass
-- is in two parts. Assumes nothing.
use Rattle.walk.specs.Steps.{TwoParts}
use Rattle.walk.proofs.Descents.{OnPath}
use Rattle.walk.proofs.ahead.straight.Given as goal

abbrev pub invariant-loop-d : goal.invariant-loop-d
invariant-loop-d l = OnPath l.count l.threshold l.events l.depth l.mass l.d l.m.units × TwoParts l.m.units l.m
