-- `thresholds_sums::paths::count_path` meets its contract: one threshold more. Assumes nothing.
use native.Mathlib.Omega.{arith}
use Rattle.thresholds_sums.proofs.Counts.{count-turned}
use Rattle.thresholds_sums.proofs.paths.count_path.Goals as goal

pub loop-i-preserved : goal.loop-i-preserved
loop-i-preserved c =
    count-turned _ _ _ _ _ _ c.loop-i.invariant (omega (arith, c.loop-i-test.true, c.requires.falling_first.0.few)) _ c.ends_of-ends.ensures.0 c.ends_of-ends.ensures.1 _ c.examined_by-one.ensures _
    c.saturating_sub.ensures
