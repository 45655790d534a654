-- `pairs::add::add_cut` meets its contract: the invariant is `CutTurn`, the measure what is left of the nodes. Assumes nothing.
use Rattle.pairs.proofs.Cut.{CutTurn}
use Rattle.pairs.proofs.add.add_cut.Given as goal

abbrev pub invariant-loop-left : goal.invariant-loop-left
invariant-loop-left l = CutTurn l.initial.lower l.base l.n l.nodes l.mass l.rows l.lower l.left

abbrev pub decreases-loop-left : goal.decreases-loop-left
decreases-loop-left l = l.left
