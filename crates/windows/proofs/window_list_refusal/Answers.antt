-- `windows::window_list_refusal` meets its contract: the windows that are left are refused as all are. Assumes nothing.
use mathlib.Core.Path.{◌≡◌, ◌∙◌, ap}
use Prim.Native.Nat.{◌+◌, ◌-◌, ◌*◌}
use native.Mathlib.Omega.{arith}
use Rattle.mass.proofs.RefusalLaws.{hands-on}
use Rattle.windows.specs.Windows.{window_test}
use Rattle.windows.proofs.WindowLaws.{window-decides, window-passes, windows-end}
use Rattle.windows.proofs.window_list_refusal.Goals as goal

pub returns-in_err-test : goal.returns-in_err-test
returns-in_err-test c =
    let a = c.args in
    hands-on _ _ c.from_residual.ensures
    (window-decides _ _ a.words.now (5 * c.loop-i.i) _ (omega arith) _ (c.in_err-test.ensures ∙ ap (window_test a.nodes a.links) c.window_at.ensures)
    ∙ c.loop-i.invariant)

pub loop-i-preserved : goal.loop-i-preserved
loop-i-preserved c =
    let a = c.args in
    let left : a.count - (c.loop-i.i + 1) ≡ a.count - c.loop-i.i - 1 = omega arith in
    let at : 5 * (c.loop-i.i + 1) ≡ 5 * c.loop-i.i + 5 = omega arith in
    rw (left, at)
    (window-passes _ _ a.words.now (5 * c.loop-i.i) _ (omega arith) (c.in_ok-test.ensures ∙ ap (window_test a.nodes a.links) c.window_at.ensures)
    ∙ c.loop-i.invariant)

pub returns : goal.returns
returns c = windows-end _ _ _ _ (omega arith) ∙ c.loop-i.invariant
