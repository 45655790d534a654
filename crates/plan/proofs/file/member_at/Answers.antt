-- `plan::file::member_at` meets its contract: the tests of the member, on its two bytes. Assumes nothing.
use mathlib.Core.Path.{sym, ◌∙◌, ap, ap₂}
use Prim.Native.Nat.{ℕ}
use Rattle.mass.proofs.RefusalLaws.{passes, last, hands-on}
use Rattle.refusals.specs.Tests.{short_test, member_test}
use Rattle.plan.proofs.FileLawsSteps.{member-step}
use Rattle.plan.proofs.file.member_at.Goals as goal

pub returns-in_err-member_test-clause-number : goal.returns-in_err-member_test-clause-number
returns-in_err-member_test-clause-number c =
    let a = c.args in
    hands-on _ _ c.from_residual-in_err-member_test.ensures
    (passes _ (c.in_ok-short_test.ensures.number ∙ ap (λ (l : ℕ). short_test l 2) c.left_of.ensures)
    (last (c.in_err-member_test.ensures ∙ ap₂ (member_test a.nodes a.links a.least) c.byte_at-kind.ensures.is c.byte_at-number.ensures.is))
    ∙ sym (member-step _ _ _ a.at a.s.now))

pub returns-clause-number : goal.returns-clause-number
returns-clause-number c =
    let a = c.args in
    passes _ (c.in_ok-short_test.ensures.number ∙ ap (λ (l : ℕ). short_test l 2) c.left_of.ensures)
    (last (c.in_ok-member_test.ensures ∙ ap₂ (member_test a.nodes a.links a.least) c.byte_at-kind.ensures.is c.byte_at-number.ensures.is))
    ∙ sym (member-step _ _ _ a.at a.s.now)
