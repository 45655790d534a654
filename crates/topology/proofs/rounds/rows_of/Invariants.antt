-- `topology::rounds::rows_of` meets its contract. The loop's invariant: all rows of the set are gathered but those still to come. Assumes nothing.
use Rattle.topology.proofs.Gather.{Gathered}
use Rattle.topology.proofs.rounds.rows_of.Given as goal

abbrev pub invariant-loop-v : goal.invariant-loop-v
invariant-loop-v l = Gathered l.rows l.set l.all l.v-iterator.left
