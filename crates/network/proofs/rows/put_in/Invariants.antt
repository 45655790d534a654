-- `network::rows::put_in` meets its contract. The loop's invariant: with the links still to come put in, the rows are what they are to be. Assumes nothing.
use Rattle.network.proofs.RowSets.{Putting}
use Rattle.network.proofs.rows.put_in.Given as goal

abbrev pub invariant-loop-i : goal.invariant-loop-i
invariant-loop-i l = Putting l.links l.base l.set l.initial.rows l.rows l.i-iterator.left
