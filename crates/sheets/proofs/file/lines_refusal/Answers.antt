-- `sheets::file::lines_refusal` meets its contract. Assumes nothing.
use mathlib.Core.Path.{◌≡◌, refl, sym, ◌∙◌, ap}
use Prim.Native.Nat.{ℕ, ◌+◌, ◌-◌}
use native.Mathlib.Omega.{arith}
use lib.ListN.{drop}
use Rattle.mass.proofs.RefusalLaws.{stops, passes, last, hands-on}
use Rattle.refusals.specs.Tests.{left_test}
use Rattle.sheets.specs.SheetFile.{lines_refusal}
use Rattle.sheets.proofs.CheckLaws.{lines_step, lines_none}
use Rattle.sheets.proofs.file.lines_refusal.Goals as goal

pub returns-in_err-line_refusal : goal.returns-in_err-line_refusal
returns-in_err-line_refusal c =
    let a = c.args in
    hands-on _ _ c.from_residual.ensures
    (stops _ _ c.in_err-line_refusal.ensures.number
    ∙ sym (lines_step a.nodes a.links (a.count - c.loop.counter) c.loop.at a.s.now (omega arith))
    ∙ c.loop.invariant)

pub loop-preserved : goal.loop-preserved
loop-preserved c =
    let a = c.args in
    let e : a.count - (c.loop.counter + 1) ≡ a.count - c.loop.counter - 1 = omega arith in
    rw e
    (ap (λ (n : ℕ). lines_refusal a.nodes a.links (a.count - c.loop.counter - 1) (drop (c.loop.at + n) a.s.now)) c.line_size-at.ensures
    ∙ passes _ c.in_ok-line_refusal.ensures.number (last refl)
    ∙ sym (lines_step a.nodes a.links (a.count - c.loop.counter) c.loop.at a.s.now (omega arith))
    ∙ c.loop.invariant)

pub returns : goal.returns
returns c =
    c.left_test.ensures
    ∙ ap left_test c.left_of.ensures
    ∙ lines_none _ _ _ _ (omega arith)
    ∙ c.loop.invariant
