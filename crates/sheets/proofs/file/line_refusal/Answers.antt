-- `sheets::file::line_refusal` meets its contract: the tests of the line, on its bytes. Assumes nothing.
use mathlib.Core.Path.{sym, ◌∙◌, ap}
use Prim.Native.Nat.{ℕ, ◌+◌}
use lib.ListN.{drop}
use Rattle.mass.proofs.RefusalLaws.{stops, passes, last, hands-on}
use Rattle.refusals.specs.Tests.{short_test}
use Rattle.plan.specs.File.{members_refusal}
use Rattle.sheets.specs.SheetFile.{product_test}
use Rattle.sheets.proofs.CheckLaws.{on3, line_step, inside}
use Rattle.sheets.proofs.file.line_refusal.Goals as goal

pub returns-in_err-members_refusal-clause-number : goal.returns-in_err-members_refusal-clause-number
returns-in_err-members_refusal-clause-number c =
    let a = c.args in
    hands-on _ _ c.from_residual-in_err-members_refusal.ensures
    (passes _ (c.in_ok-short_test.ensures.number ∙ ap (λ (l : ℕ). short_test l 13) c.left_of.ensures)
    (stops _ _ (c.in_err-members_refusal.ensures ∙ ap (λ (k : ℕ). members_refusal a.nodes a.links 0 k (drop (a.at + 13) a.s.now)) c.byte_at.ensures.is))
    ∙ sym (line_step _ _ a.at a.s.now))

pub returns-clause-number : goal.returns-clause-number
returns-clause-number c =
    let a = c.args in
    passes _ (c.in_ok-short_test.ensures.number ∙ ap (λ (l : ℕ). short_test l 13) c.left_of.ensures)
    (passes _ (c.in_ok-members_refusal.ensures ∙ ap (λ (k : ℕ). members_refusal a.nodes a.links 0 k (drop (a.at + 13) a.s.now)) c.byte_at.ensures.is)
    (last (c.product_test.ensures ∙ on3 product_test c.number_at.ensures
    (inside 4 a.at a.s.now c.number_at-2.ensures)
    (inside 8 a.at a.s.now c.number_at-3.ensures))))
    ∙ sym (line_step _ _ a.at a.s.now)
