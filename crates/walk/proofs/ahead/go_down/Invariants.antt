-- `walk::ahead::go_down` meets its contract. The loop's invariant is `Going`: a branch in hand, the pending entries on the stack, and the same
-- ends to come as at the start. Assumes nothing.
use mathlib.Core.List.{◌++◌}
use Prim.Native.Nat.{◌+◌}
use lib.ListN.{drop}
use Rattle.plan.specs.Lists.{events_of}
use Rattle.walk.specs.Pending.{branch_ends}
use Rattle.walk.specs.Stack.{branch_of, to_come, pending_mass}
use Rattle.walk.proofs.Descents.{Going}
use Rattle.walk.proofs.ahead.go_down.Given as goal

abbrev pub invariant-loop-d : goal.invariant-loop-d
invariant-loop-d l =
    Going l.count l.threshold l.events
    (branch_ends l.threshold (events_of l.count l.events) (branch_of l.fn.branch.depth l.fn.branch.mass l.failing.low l.failing.high) ++ to_come l.count l.threshold l.events l.at l.initial.stack)
    (l.fn.branch.mass + pending_mass (drop l.at l.initial.stack)) l.d l.m l.failing l.top l.stack
