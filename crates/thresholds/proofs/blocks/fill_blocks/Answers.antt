-- `thresholds::blocks::fill_blocks` meets its contract. Assumes nothing.
use mathlib.Core.Path.{refl}
use Rattle.thresholds.proofs.Filled.{may-raise, answers, lowers-laid, uppers-laid, blocks-enclosed}
use Rattle.thresholds.proofs.blocks.fill_blocks.Goals as goal

pub walk_blocks-requires : goal.walk_blocks-requires
walk_blocks-requires c =
    record {
      held = c.requires.held.0;
      cap_bound = c.requires.cap_bound;
      rooms_value = (refl, (refl, refl));
      list_in_bounds = c.requires.list_in_bounds.0;
    }

pub raise_blocks-requires : goal.raise_blocks-requires
raise_blocks-requires c =
    let a = c.args in
    rw c.pair_count.ensures
    (may-raise a.h a.links.now a.words.now a.list.now c.requires.held.1 c.requires.held.0.links-held.nodes-fit c.requires.cap_bound.1 _ a.lower.now _
    c.walk_blocks.ensures
    a.upper.now
    c.requires.list_in_bounds.0
    c.requires.list_in_bounds.1)

pub returns : goal.returns
returns c =
    let a = c.args in
    let b = c.walk_blocks.ensures in
    let few = c.requires.held.0.links-held.nodes-fit in
    let r = rw c.pair_count.ensures at c.raise_blocks.ensures in
    record {
      answer = answers a.h a.links.now a.words.now a.list.now c.requires.held.1 few c.requires.cap_bound.1 _ a.lower.now _ b _ c.completes.ensures;
      lowers = lowers-laid a.h a.links.now a.words.now a.list.now c.requires.held.1 few c.requires.cap_bound.1 _ a.lower.now _ b c.requires.list_in_bounds.0;
      uppers = uppers-laid a.h a.links.now a.words.now a.list.now c.requires.held.1 few c.requires.cap_bound.1 _ a.lower.now _ b a.upper.now _ c.requires.list_in_bounds.1 r;
      demand3 = blocks-enclosed a.h a.links.now a.words.now a.list.now c.requires.held.1 few c.requires.cap_bound.1 _ a.lower.now _ b a.upper.now _ c.requires.list_in_bounds.1 r;
    }
