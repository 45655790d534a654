-- `thresholds_walk::go_down` meets its contract. The loop's invariant is `Going`: a branch in hand, the pending entries on the stack, and for
-- every threshold the same ends to come as at the start. Assumes nothing.
use Rattle.thresholds_walk.specs.Paths.{shared_walk}
use Rattle.thresholds_walk.proofs.Descents.{Going}
use Rattle.thresholds_walk.proofs.go_down.Given as goal

abbrev pub invariant-loop-d : goal.invariant-loop-d
invariant-loop-d l =
    Going (shared_walk l.count l.lowest l.events) l.at l.entry l.initial.stack l.stack (record { at = l.top; depth = l.d; mass = l.m })
