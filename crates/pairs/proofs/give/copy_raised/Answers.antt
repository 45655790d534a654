-- `pairs::give::copy_raised` meets its contract: the loop has laid down the entries before i. Assumes nothing.
use Prim.Native.Nat.{◌<◌, ◌≤◌}
use native.Mathlib.Omega.{arith}
use lib.ListN.{length}
use Rattle.pairs.proofs.Raised.{raise-at}
use Rattle.pairs.proofs.give.copy_raised.Goals as goal

pub loop-i-preserved : goal.loop-i-preserved
loop-i-preserved c =
    let a = c.args in
    let low : a.start ≤ c.loop-i.i = omega arith in
    let h : c.loop-i.i < length a.from.now = omega (arith, c.requires.start_in_bounds) in
    raise-at a.from.now a.to.now _ a.start a.rest _ low h c.loop-i.invariant
