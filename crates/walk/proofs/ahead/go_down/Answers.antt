-- `walk::ahead::go_down` meets its contract. The loop's invariant is `Going`: a branch in hand, the pending entries on the stack, and the same
-- ends to come as at the start. Assumes nothing.
use native.Mathlib.Omega.{arith}
use Rattle.mass.proofs.Theorems.{same-fails, same-works}
use Rattle.walk.proofs.Descents.{probable, come-cut, come-leaf, come-straight, down}
use Rattle.walk.proofs.ahead.go_down.Goals as goal

pub returns-then-m-threshold : goal.returns-then-m-threshold
returns-then-m-threshold c = come-cut _ _ _ _ _ _ _ _ _ _ c.loop-d.invariant c.if-m-threshold.true _ (omega arith)

pub split_at-parts-requires : goal.split_at-parts-requires
split_at-parts-requires c = (omega arith, c.loop-d.invariant.hand.light, probable _ _ c.requires.count_bound.1 _ c.loop-d-test.true)

pub returns-then-f-threshold : goal.returns-then-f-threshold
returns-then-f-threshold c =
    come-straight _ _ _ _ _ _ _ _ _ _ c.loop-d.invariant c.requires.count_bound.0 c.requires.count_bound.1 c.if-m-threshold.false c.loop-d-test.true
    (rw c.split_at-parts.ensures at c.if-f-threshold.true) _ (same-works c.split_at-parts.ensures) _ c.straight-stop.ensures _ c.end_at.ensures

pub loop-d-preserved : goal.loop-d-preserved
loop-d-preserved c =
    down _ _ _ _ _ _ _ _ _ _ c.loop-d.invariant c.requires.count_bound.0 c.requires.count_bound.1 c.if-m-threshold.false c.loop-d-test.true _ _ _
    (same-fails c.split_at-parts.ensures) (same-works c.split_at-parts.ensures) c.push.ensures

pub returns : goal.returns
returns c = come-leaf _ _ _ _ _ _ _ _ _ _ c.loop-d.invariant c.loop-d-test.false _ c.end_at-2.ensures
