-- `walk::ahead::next_relevant` meets its contract. The loop's invariant is `Passing`: so many dropped ends were passed, and the others are to
-- come. The measure is how many ends are to come. Assumes nothing.
use mathlib.Core.Path.{sym}
use native.Mathlib.Omega.{arith}
use Rattle.walk.proofs.Stepping.{further}
use Rattle.walk.proofs.ahead.next_relevant.Goals as goal

pub loop-top-preserved : goal.loop-top-preserved
loop-top-preserved c =
    further _ _ _ c.args.at c.args.stack.now _ _ _ _ c.loop-top.invariant (omega arith) _ _ c.descend-r.ensures (sym c.if-is_some.ensures)
    _ (omega arith) _ _ c.delay-top.ensures
