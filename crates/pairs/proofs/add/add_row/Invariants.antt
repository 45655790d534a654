-- `pairs::add::add_row` meets its contract: the invariant is `RowTurn`. Assumes nothing.
use Rattle.pairs.proofs.Row.{RowTurn}
use Rattle.pairs.proofs.add.add_row.Given as goal

abbrev pub invariant-loop-w : goal.invariant-loop-w
invariant-loop-w l = RowTurn l.initial.lower l.start l.skip l.set l.mass l.lower l.w-iterator.left
