-- `walk::put` meets its contract: the loop has laid down the words before i. Assumes nothing.
use mathlib.Core.Path.{◌≡◌}
use lib.Seq.{paste}
use Rattle.walk.proofs.put.Given as goal

abbrev pub invariant-loop-i : goal.invariant-loop-i
invariant-loop-i l = l.stack ≡ paste l.initial.stack l.at l.words l.i
