-- `bounds::ends::examine` meets its contract: the invariant is `BlocksTurn`. What is out and what fails is not used in the loop, so the
-- invariant is for anything whose topology the neighbours show. Assumes nothing.
use Rattle.network.specs.Outage.{Outage}
use Rattle.walk.specs.declared.Failing.{Failing}
use Rattle.bounds.proofs.Examining.{cut_by, Shown, BlocksTurn}
use Rattle.bounds.proofs.ends.examine.Given as goal

abbrev pub invariant-loop-b : goal.invariant-loop-b
invariant-loop-b l =
    (out : Outage) (failing : Failing) → Shown out l.fn.h l.links l.words failing l.nodes l.rows
    → BlocksTurn l.fn.h.nodes (cut_by out l.fn.h l.links l.words failing) l.blocks l.mass l.initial.lower l.lower l.b-iterator.left
