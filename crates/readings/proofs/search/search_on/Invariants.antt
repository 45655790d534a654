-- `readings::search::search_on` meets its contract: the invariant is `Seek`, the measure the ends left. Assumes nothing.
use Rattle.readings.proofs.Seek.{Seek}
use Rattle.readings.proofs.search.search_on.Given as goal

abbrev pub invariant-loop-x : goal.invariant-loop-x
invariant-loop-x l = Seek l.h l.links l.words l.initial.at l.initial.stack l.v l.w l.k l.stack l.at l.left

abbrev pub decreases-loop-x : goal.decreases-loop-x
decreases-loop-x l = l.left
