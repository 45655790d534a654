-- `thresholds_sums::walking::walk_thresholds` meets its contract. The loop's invariant is `Walking`: the first `active` thresholds are under way, and
-- the others have ended. The measure is `active`. Assumes nothing.
use mathlib.Core.Path.{refl}
use native.Mathlib.Nat.{mul-le-mul_left}
use native.Mathlib.Omega.{arith}
use lib.ListN.{replicate}
use Rattle.pairs.specs.Pairs.{pair_count}
use Rattle.thresholds_sums.proofs.Turns.{fewer-fall, walk_begins, walk-turned, walk-done}
use Rattle.thresholds_sums.proofs.walking.walk_thresholds.Goals as goal

pub links_at-table-requires : goal.links_at-table-requires
links_at-table-requires c = c.requires.held.links-held

pub loop-active-init : goal.loop-active-init
loop-active-init c =
    walk_begins _ _ _ _ c.requires.fresh c.requires.falling_first.0 c.requires.held.links-held.nodes-fit _ (replicate 640 0) _ c.begin-at.ensures.0 c.begin-at.ensures.1 refl

pub walk_with-at-requires : goal.walk_with-at-requires
walk_with-at-requires c =
    let g = c.loop-active.invariant in
    let taken = c.loop-active-test.true in
    record {
      held = c.requires.held;
      links_at = c.links_at-table.ensures;
      falling_first = (fewer-fall _ _ _ c.requires.falling_first.0 g.within, omega (arith, taken), c.requires.falling_first.1);
      shared_stack = (g.stacked, omega (arith, c.requires.fresh.fits, g.kept.sized, mul-le-mul_left (pair_count c.args.h.nodes) g.within), g.kept.arrays);
      all_counted_so_far = g.sofar;
    }

pub overflow_sub-active : goal.overflow_sub-active
overflow_sub-active c = omega (arith, c.loop-active-test.true)

pub loop-active-smaller : goal.loop-active-smaller
loop-active-smaller c = omega (arith, c.loop-active-test.true)

pub loop-active-preserved : goal.loop-active-preserved
loop-active-preserved c =
    let taken = c.loop-active-test.true in
    walk-turned _ _ _ _ c.requires.held.links-held.nodes-fit _ _ _ _ _ (omega (arith, taken)) c.loop-active.invariant _ _ _ _ c.walk_with-at.ensures.shared_stack_2 c.walk_with-at.ensures.all_counted_so_far_2 c.walk_with-at.ensures.kept c.walk_with-at.ensures.fact

pub shape_of-lower : goal.shape_of-lower
shape_of-lower c = c.loop-active.invariant.kept.sized

pub returns : goal.returns
returns c = walk-done _ _ _ _ _ _ _ _ _ (omega (arith, c.loop-active-test.false)) c.loop-active.invariant
