-- `plan::file::links_refusal` meets its contract. Assumes nothing.
use mathlib.Core.Path.{◌≡◌, refl, sym, ◌∙◌, ap, ap₂}
use Prim.Native.Nat.{ℕ, ◌+◌, ◌-◌}
use native.Mathlib.Omega.{arith}
use Rattle.mass.proofs.RefusalLaws.{stops, passes, last, hands-on}
use Rattle.refusals.specs.Tests.{short_test, ends_test}
use Rattle.plan.proofs.FileLawsSteps.{links-step, links-none}
use Rattle.plan.proofs.file.links_refusal.Goals as goal

pub returns-in_err-short_test : goal.returns-in_err-short_test
returns-in_err-short_test c =
    let a = c.args in
    hands-on _ _ c.from_residual.ensures
    (stops _ _ (c.in_err-short_test.ensures.number ∙ ap (λ (l : ℕ). short_test l 2) c.left_of.ensures)
    ∙ sym (links-step a.nodes (a.count - c.loop.counter) c.loop.at a.s.now (omega arith))
    ∙ c.loop.invariant)

pub returns-in_err-ends_test : goal.returns-in_err-ends_test
returns-in_err-ends_test c =
    let a = c.args in
    hands-on _ _ c.from_residual-in_err-ends_test.ensures
    (passes _ (c.in_ok-short_test.ensures.number ∙ ap (λ (l : ℕ). short_test l 2) c.left_of.ensures)
    (stops _ _ (c.in_err-ends_test.ensures ∙ ap₂ (ends_test a.nodes) c.byte_at.ensures.is c.byte_at-in-loop.ensures.is))
    ∙ sym (links-step a.nodes (a.count - c.loop.counter) c.loop.at a.s.now (omega arith))
    ∙ c.loop.invariant)

pub loop-preserved : goal.loop-preserved
loop-preserved c =
    let a = c.args in
    let e : a.count - (c.loop.counter + 1) ≡ a.count - c.loop.counter - 1 = omega arith in
    rw e
    (passes _ (c.in_ok-short_test.ensures.number ∙ ap (λ (l : ℕ). short_test l 2) c.left_of.ensures)
    (passes _ (c.in_ok-ends_test.ensures ∙ ap₂ (ends_test a.nodes) c.byte_at.ensures.is c.byte_at-in-loop.ensures.is) (last refl))
    ∙ sym (links-step a.nodes (a.count - c.loop.counter) c.loop.at a.s.now (omega arith))
    ∙ c.loop.invariant)

pub returns : goal.returns
returns c = links-none _ _ _ (omega arith) ∙ c.loop.invariant
