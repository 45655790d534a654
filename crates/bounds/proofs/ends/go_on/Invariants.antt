-- `bounds::ends::go_on` meets its contract: the invariant is `Turn`, the measure the ends left. Assumes nothing.
use Rattle.network.specs.Code.{outage}
use Rattle.bounds.specs.Tallied.{walked_plan, run_state}
use Rattle.bounds.proofs.Turn.{Turn}
use Rattle.bounds.proofs.ends.go_on.Given as goal

abbrev pub invariant-loop-x : goal.invariant-loop-x
invariant-loop-x l =
    Turn (walked_plan (outage l.out) l.h l.links l.words)
    (run_state l.initial.stack l.initial.lower (record { at = l.initial.at; left = l.initial.left; count = l.initial.count; mass = l.initial.mass }))
    (run_state l.stack l.lower (record { at = l.at; left = l.left; count = l.count; mass = l.mass }))

abbrev pub decreases-loop-x : goal.decreases-loop-x
decreases-loop-x l = l.left
