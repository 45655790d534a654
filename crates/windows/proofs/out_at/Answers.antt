-- `windows::out_at` meets its contract: the windows from the last one back to the first. Assumes nothing.
use mathlib.Core.Path.{◌∙◌}
use Prim.Native.Nat.{◌/◌}
use native.Mathlib.Omega.{arith}
use lib.ListN.{length}
use Rattle.windows.proofs.WindowLaws.{out-start, out-next, out-all}
use Rattle.windows.proofs.out_at.Goals as goal

pub loop-i-init : goal.loop-i-init
loop-i-init c = out-start c.args.minute c.args.words.now (length c.args.words.now / 5)

pub loop-i-preserved : goal.loop-i-preserved
loop-i-preserved c =
    let a = c.args in
    out-next a.minute a.words.now _ c.loop-i.i _ _ c.loop-i-test.true c.loop-i.auto.i c.loop-i.invariant c.with_window-out.ensures

pub returns : goal.returns
returns c =
    let a = c.args in
    c.loop-i.invariant ∙ out-all a.minute a.words.now _ c.loop-i.i c.loop-i-test.false
