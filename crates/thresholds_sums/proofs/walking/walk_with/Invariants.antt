-- `thresholds_sums::walking::walk_with` meets its contract. The loop's invariant: for each threshold under way, what was reached and what is to
-- come give its plan's answers; all else is untouched. The measure: how many ends of the lowest are to come, then how many branches are
-- pending. Assumes nothing.
use Rattle.thresholds_walk.specs.Stack.{SharedStack}
use Rattle.thresholds_walk.specs.Paths.{shared_walk, left_to_take}
use Rattle.thresholds_sums.specs.Walked.{plans_of, AllCountedSoFar, Kept}
use Rattle.thresholds_sums.proofs.walking.walk_with.Given as goal

abbrev pub invariant-loop-at : goal.invariant-loop-at
invariant-loop-at l =
    SharedStack l.h.events l.at l.stack
    × AllCountedSoFar (plans_of l.h l.links l.words l.list) l.active l.at l.stack l.places l.lower
    × Kept l.h l.active l.initial.places l.initial.lower l.places l.lower

abbrev pub decreases-loop-at : goal.decreases-loop-at
decreases-loop-at l =
    left_to_take (shared_walk l.h.events l.lowest l.words) l.at l.stack
