-- `thresholds::blocks::raise_blocks` meets its contract: one block more. Assumes nothing.
use Rattle.thresholds.proofs.RaiseLaws.{one_more}
use Rattle.thresholds.proofs.blocks.raise_blocks.Goals as goal

pub loop-i-preserved : goal.loop-i-preserved
loop-i-preserved c = one_more _ _ _ _ _ c.requires c.loop-i.i c.loop-i-test.true _ _ c.loop-i.invariant c.copy_raised.ensures
