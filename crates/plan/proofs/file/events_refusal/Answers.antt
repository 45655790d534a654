-- `plan::file::events_refusal` meets its contract. Assumes nothing.
use mathlib.Core.Path.{◌≡◌, refl, sym, ◌∙◌, ap, ap₂}
use Prim.Native.Nat.{ℕ, ◌+◌, ◌-◌}
use native.Mathlib.Omega.{arith}
use lib.ListN.{drop}
use Rattle.mass.proofs.RefusalLaws.{stops, passes, last, hands-on}
use Rattle.refusals.specs.Tests.{left_test}
use Rattle.plan.specs.File.{events_refusal}
use Rattle.plan.proofs.FileLawsSteps.{events-step, events-none}
use Rattle.plan.proofs.file.events_refusal.Goals as goal

pub returns-in_err-event_refusal : goal.returns-in_err-event_refusal
returns-in_err-event_refusal c =
    let a = c.args in
    hands-on _ _ c.from_residual.ensures
    (stops _ _ c.in_err-event_refusal.ensures.number
    ∙ sym (events-step a.nodes a.links c.loop.before (a.count - c.loop.counter) c.loop.at a.s.now (omega arith))
    ∙ c.loop.invariant)

pub loop-preserved : goal.loop-preserved
loop-preserved c =
    let a = c.args in
    let e : a.count - (c.loop.counter + 1) ≡ a.count - c.loop.counter - 1 = omega arith in
    rw e
    (ap₂ (λ (q n : ℕ). events_refusal a.nodes a.links q (a.count - c.loop.counter - 1) (drop (c.loop.at + n) a.s.now)) c.number_at-before.ensures c.event_size-at.ensures
    ∙ passes _ c.in_ok-event_refusal.ensures.number (last refl)
    ∙ sym (events-step a.nodes a.links c.loop.before (a.count - c.loop.counter) c.loop.at a.s.now (omega arith))
    ∙ c.loop.invariant)

pub returns : goal.returns
returns c =
    c.left_test.ensures
    ∙ ap left_test c.left_of.ensures
    ∙ events-none _ _ _ _ _ (omega arith)
    ∙ c.loop.invariant
