-- `plan::file::members_refusal` meets its contract. Assumes nothing.
use mathlib.Core.Path.{◌≡◌, refl, sym, ◌∙◌, ap}
use Prim.Native.Nat.{ℕ, ◌+◌, ◌-◌}
use native.Mathlib.Omega.{arith}
use lib.ListN.{drop}
use Rattle.mass.proofs.RefusalLaws.{stops, passes, last, hands-on}
use Rattle.plan.specs.File.{members_refusal}
use Rattle.plan.proofs.FileLawsSteps.{members_step, members-none}
use Rattle.plan.proofs.file.members_refusal.Goals as goal

pub returns-in_err-member_at : goal.returns-in_err-member_at
returns-in_err-member_at c =
    let a = c.args in
    hands-on _ _ c.from_residual.ensures
    (stops _ _ c.in_err-member_at.ensures.number
    ∙ sym (members_step a.nodes a.links c.loop.least (a.count - c.loop.counter) c.loop.at a.s.now (omega arith))
    ∙ c.loop.invariant)

pub loop-preserved : goal.loop-preserved
loop-preserved c =
    let a = c.args in
    let e : a.count - (c.loop.counter + 1) ≡ a.count - c.loop.counter - 1 = omega arith in
    rw e
    (ap (λ (k : ℕ). members_refusal a.nodes a.links (k + 1) (a.count - c.loop.counter - 1) (drop (c.loop.at + 2) a.s.now)) c.rank_at-least.ensures.is
    ∙ passes _ c.in_ok-member_at.ensures.number (last refl)
    ∙ sym (members_step a.nodes a.links c.loop.least (a.count - c.loop.counter) c.loop.at a.s.now (omega arith))
    ∙ c.loop.invariant)

pub returns : goal.returns
returns c = members-none _ _ _ _ _ (omega arith) ∙ c.loop.invariant
