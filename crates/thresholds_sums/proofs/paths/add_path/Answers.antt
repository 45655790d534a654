-- `thresholds_sums::paths::add_path` meets its contract. Assumes nothing.
use Rattle.thresholds_sums.proofs.Blocks.{nothing-added, blocks-fit, path-added}
use Rattle.thresholds_sums.proofs.paths.add_path.Goals as goal

pub returns-then-blocks-eq0 : goal.returns-then-blocks-eq0
returns-then-blocks-eq0 c = nothing-added _ _ _ _ _ _ _ c.wanted_blocks-blocks.ensures _ _ c.if-blocks-eq0.true

pub examine-requires : goal.examine-requires
examine-requires c =
    let a = c.args in
    let order = c.requires.falling_first in
    record {
      held = c.requires.held;
      links_at = c.requires.links_at;
      high_bound = order.2;
      blocks_fit = blocks-fit a.h _ _ _ a.path _ _ c.wanted_blocks-blocks.ensures order.0.few c.requires.active_in_bounds c.requires.path_fits;
    }

pub returns : goal.returns
returns c = path-added _ _ _ _ _ _ _ c.wanted_blocks-blocks.ensures _ _ _ c.examine.ensures
