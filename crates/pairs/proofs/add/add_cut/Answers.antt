-- `pairs::add::add_cut` meets its contract: the invariant is `CutTurn`, the measure what is left of the nodes. Assumes nothing.
use Rattle.topology.proofs.Shares.{shrinks}
use Rattle.pairs.proofs.Cut.{cut-begins, has_first, all-joined, cut-turned, cut-done}
use Rattle.pairs.proofs.add.add_cut.Goals as goal

pub loop-left-init : goal.loop-left-init
loop-left-init c = cut-begins _ _ _ _ _ _ c.requires

pub returns-then-others-eq0 : goal.returns-then-others-eq0
returns-then-others-eq0 c =
    all-joined c.loop-left.invariant _ c.all_below-all.ensures _ _ c.lowest.ensures.found c.reach-part.ensures.paths _ c.less-others.ensures c.if-others-eq0.true

pub loop-left-smaller : goal.loop-left-smaller
loop-left-smaller c =
    let low = c.lowest in
    shrinks c.loop-left.left c.reach-part.result.set c.less-left.result low.result c.less-left.ensures low.ensures.found
    (has_first c.loop-left.invariant _ c.all_below-all.ensures _ _ low.ensures.found c.reach-part.ensures.paths)

pub loop-left-preserved : goal.loop-left-preserved
loop-left-preserved c =
    cut-turned c.loop-left.invariant _ c.all_below-all.ensures _ _ c.lowest.ensures.found c.reach-part.ensures.paths _ c.less-others.ensures c.add_rows.ensures _ c.less-left.ensures

pub returns : goal.returns
returns c =
    cut-done c.loop-left.invariant _ c.all_below-all.ensures _ c.less.ensures c.add_rows-2.ensures c.loop-left-test.false
