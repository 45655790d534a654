-- `thresholds_sums::paths::count_path` meets its contract. The loop's invariant: the path is counted for the first i thresholds, and the other
-- places are untouched. Assumes nothing.
use Prim.Native.Nat.{◌-◌}
use lib.ListN.{get_or}
use Rattle.thresholds_walk.specs.Paths.{shared_walk}
use Rattle.thresholds_sums.specs.Walked.{PathCounted}
use Rattle.thresholds_sums.proofs.paths.count_path.Given as goal

abbrev pub invariant-loop-i : goal.invariant-loop-i
invariant-loop-i l = PathCounted (shared_walk l.events (get_or l.list (l.active - 1) 0) l.words) l.list l.i l.path l.initial.places l.places
