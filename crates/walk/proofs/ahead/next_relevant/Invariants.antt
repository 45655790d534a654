-- `walk::ahead::next_relevant` meets its contract. The loop's invariant is `Passing`: so many dropped ends were passed, and the others are to
-- come. The measure is how many ends are to come. Assumes nothing.
use lib.ListN.{length}
use Rattle.walk.specs.Stack.{to_come}
use Rattle.walk.proofs.Stepping.{Passing}
use Rattle.walk.proofs.ahead.next_relevant.Given as goal

abbrev pub invariant-loop-top : goal.invariant-loop-top
invariant-loop-top l =
    Passing l.count l.threshold l.events l.at l.initial.stack l.allowed l.top l.left l.stack

abbrev pub decreases-loop-top : goal.decreases-loop-top
decreases-loop-top l = length (to_come l.count l.threshold l.events l.top l.stack)
