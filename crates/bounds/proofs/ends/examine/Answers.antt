-- `bounds::ends::examine` meets its contract: the invariant is `BlocksTurn`. What is out and what fails is not used in the loop, so the
-- invariant is for anything whose topology the neighbours show. Assumes nothing.
use native.Mathlib.Omega.{arith}
use Rattle.network.specs.Code.{outage}
use Rattle.bounds.proofs.Examining.{Shown, shown_by, blocks-begin, blocks-done, low-base, block_few, block-asked, blocks-turned}
use Rattle.bounds.proofs.ends.examine.Goals.{After-neighbours-rows}
use Rattle.bounds.proofs.ends.examine.Goals as goal

shown : (k : After-neighbours-rows)
    → Shown (outage k.args.out) k.args.h k.args.links.now k.args.words.now k.args.failing
    k.working_nodes-nodes.result
    k.neighbours-rows.result
shown k =
    shown_by _ _ _ _ _ _ _ _ k.requires.high_bound k.failed_by-failed.ensures k.working_nodes-nodes.ensures k.neighbours-rows.ensures

pub loop-b-init : goal.loop-b-init
loop-b-init c =
    λ out f s.
    rw (c.into_iter-b-iterator.ensures.into_iter_gives, c.elements-b-items.ensures) (blocks-begin _ _ _ _ _)

pub overflow_mul-pairs : goal.overflow_mul-pairs
overflow_mul-pairs c =
    let s = shown (goal.at.overflow_mul-pairs c).After-neighbours-rows in
    let r = c.requires in
    let inside = block_few _ _ _ _ _ _ _ _ _ _ (c.loop-b.invariant _ _ s) r.held r.blocks_fit _ _ s c.in-Some.ensures.steps in
    record { fits = rw c.pair_count-pairs.ensures (omega (arith, low-base c.args.h.nodes c.in-Some.b r.held.links-held.nodes-fit inside)) }

pub add_cut-requires : goal.add_cut-requires
add_cut-requires c =
    let s = shown (goal.at.add_cut-requires c).After-neighbours-rows in
    rw c.pair_count-pairs.ensures
    (block-asked _ _ _ _ _ _ _ _ _ _ (c.loop-b.invariant _ _ s) c.requires.held c.requires.blocks_fit _ _ s c.in-Some.ensures.steps)

pub loop-b-preserved : goal.loop-b-preserved
loop-b-preserved c =
    λ out f s.
    blocks-turned out _ _ _ f _ _ _ _ _ (c.loop-b.invariant out f s) c.requires.held c.requires.blocks_fit _ _ s c.in-Some.ensures.steps _
    (rw c.pair_count-pairs.ensures at c.add_cut.ensures)

pub shape_of-lower : goal.shape_of-lower
shape_of-lower c = (c.loop-b.invariant _ _ (shown (goal.at.shape_of-lower c).After-neighbours-rows)).sized

pub returns : goal.returns
returns c =
    blocks-done _ _ _ _ _ _ _ (c.loop-b.invariant _ _ (shown (goal.at.returns c).After-neighbours-rows)) c.in-None.ensures.steps.0
