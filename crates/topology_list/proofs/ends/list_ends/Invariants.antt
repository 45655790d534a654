-- `topology_list::ends::list_ends` meets its contract: the invariant is `Turn`, the measure the ends left. Assumes nothing.
use Rattle.topology_list.proofs.Turn.{Turn}
use Rattle.topology_list.proofs.ends.list_ends.Given as goal

abbrev pub invariant-loop-x : goal.invariant-loop-x
invariant-loop-x l =
    Turn l.h l.links l.words l.initial.at l.initial.stack l.initial.list l.h.cap l.stack l.list l.at l.left l.count

abbrev pub decreases-loop-x : goal.decreases-loop-x
decreases-loop-x l = l.left
