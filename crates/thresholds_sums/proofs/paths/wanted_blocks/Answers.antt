-- `thresholds_sums::paths::wanted_blocks` meets its contract: of no threshold, the empty set. Assumes nothing.
use Rattle.thresholds_sums.proofs.Blocks.{wanted-begin}
use Rattle.thresholds_sums.proofs.paths.wanted_blocks.Goals as goal

pub loop-i-init : goal.loop-i-init
loop-i-init c = wanted-begin _ _ _
