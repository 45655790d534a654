-- `plan_lists::copy_first` meets its contract: the loop has laid down the items before i. Assumes nothing.
use native.Mathlib.Omega.{arith}
use Prim.Native.Nat.{◌<◌}
use lib.ListN.{length}
use Rattle.plan_lists.proofs.ListLaws.{copy-item}
use Rattle.plan_lists.proofs.copy_first.Goals as goal

pub loop-i-preserved : goal.loop-i-preserved
loop-i-preserved g c =
    let a = c.args in
    let h : c.loop-i.i < length a.from.now = omega (arith, c.requires.0) in
    copy-item a.from.now a.to.now c.loop-i.to a.at c.loop-i.i c.index-from-i.result c.loop-i.invariant c.index-from-i.is h
