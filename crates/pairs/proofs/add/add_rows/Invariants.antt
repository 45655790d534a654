-- `pairs::add::add_rows` meets its contract: the invariant is `RowsTurn`. Assumes nothing.
use Rattle.pairs.proofs.Rows.{RowsTurn}
use Rattle.pairs.proofs.add.add_rows.Given as goal

abbrev pub invariant-loop-v : goal.invariant-loop-v
invariant-loop-v l = RowsTurn l.initial.lower l.base l.n l.set l.others l.mass l.lower l.v-iterator.left
