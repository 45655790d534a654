-- `thresholds_sums::paths::wanted_blocks` meets its contract. The loop's invariant: the set holds those of the first i blocks that are wanted.
-- Assumes nothing.
use Rattle.thresholds_sums.specs.Walked.{WantedBlocks}
use Rattle.thresholds_sums.proofs.paths.wanted_blocks.Given as goal

abbrev pub invariant-loop-i : goal.invariant-loop-i
invariant-loop-i l = WantedBlocks l.list l.rooms l.i l.last l.blocks
