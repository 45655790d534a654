-- `thresholds_walk::go_down` meets its contract. The loop's invariant is `Going`: a branch in hand, the pending entries on the stack, and for
-- every threshold the same ends to come as at the start. Assumes nothing.
use native.Mathlib.Omega.{arith}
use Rattle.mass.proofs.Theorems.{same-fails, same-works}
use Rattle.walk.proofs.Descents.{probable}
use Rattle.thresholds_walk.proofs.Descents.{ended, down}
use Rattle.thresholds_walk.proofs.go_down.Goals as goal

pub split_at-parts-requires : goal.split_at-parts-requires
split_at-parts-requires c =
    let hand = c.loop-d.invariant.hand in
    (omega arith, omega (arith, hand.lighter, hand.light), probable _ _ c.requires.count_bound.1 _ c.loop-d-test.true)

pub loop-d-preserved : goal.loop-d-preserved
loop-d-preserved c =
    down _ _ _ _ _ _ c.loop-d.invariant c.requires.count_bound.0 c.requires.count_bound.1 c.if-m-lowest.false c.loop-d-test.true _ _ _
    (same-fails c.split_at-parts.ensures) (same-works c.split_at-parts.ensures) c.push.ensures

pub returns : goal.returns
returns c = ended _ _ _ _ _ _ c.loop-d.invariant c.loop-d-test.false
