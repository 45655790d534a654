-- `plan_lists::link_list_refusal` meets its contract: the links that are left are refused as all are. Assumes nothing.
use mathlib.Core.Path.{◌≡◌, ◌∙◌, ap₂}
use Prim.Native.Nat.{◌+◌, ◌-◌, ◌*◌}
use native.Mathlib.Omega.{arith}
use Rattle.mass.proofs.RefusalLaws.{hands-on}
use Rattle.refusals.specs.Tests.{ends_test}
use Rattle.plan_lists.proofs.ListLaws.{link-decides, link-passes, links_end}
use Rattle.plan_lists.proofs.link_list_refusal.Goals as goal

pub returns-in_err-ends_test : goal.returns-in_err-ends_test
returns-in_err-ends_test c =
    let a = c.args in
    hands-on _ _ c.from_residual.ensures
    (link-decides _ a.links.now (2 * c.loop-i.i) _ (omega arith) _ (c.in_err-ends_test.ensures ∙ ap₂ (ends_test a.nodes) c.byte_at.ensures.is c.byte_at-in-loop-i.ensures.is)
    ∙ c.loop-i.invariant)

pub loop-i-preserved : goal.loop-i-preserved
loop-i-preserved c =
    let a = c.args in
    let left : a.count - (c.loop-i.i + 1) ≡ a.count - c.loop-i.i - 1 = omega arith in
    let at : 2 * (c.loop-i.i + 1) ≡ 2 * c.loop-i.i + 2 = omega arith in
    rw (left, at)
    (link-passes _ a.links.now (2 * c.loop-i.i) _ (omega arith) (c.in_ok-ends_test.ensures ∙ ap₂ (ends_test a.nodes) c.byte_at.ensures.is c.byte_at-in-loop-i.ensures.is)
    ∙ c.loop-i.invariant)

pub returns : goal.returns
returns c = links_end _ _ _ (omega arith) ∙ c.loop-i.invariant
