-- `thresholds_sums::walking::walk_thresholds` meets its contract. The loop's invariant is `Walking`: the first `active` thresholds are under way, and
-- the others have ended. The measure is `active`. Assumes nothing.
use Rattle.thresholds_sums.specs.Walked.{plans_of}
use Rattle.thresholds_sums.proofs.Turns.{Walking}
use Rattle.thresholds_sums.proofs.walking.walk_thresholds.Given as goal

abbrev pub invariant-loop-active : goal.invariant-loop-active
invariant-loop-active l =
    Walking (plans_of l.h l.links l.words l.list) l.count l.initial.places l.initial.lower l.active l.at l.stack l.places l.lower

abbrev pub decreases-loop-active : goal.decreases-loop-active
decreases-loop-active l = l.active
