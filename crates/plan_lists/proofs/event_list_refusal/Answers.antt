-- `plan_lists::event_list_refusal` meets its contract: the events that are left are refused as all are. Assumes nothing.
use mathlib.Core.Path.{◌≡◌, refl, ◌∙◌}
use Prim.Native.Nat.{◌+◌, ◌-◌, ◌*◌}
use native.Mathlib.Omega.{arith}
use Rattle.mass.proofs.RefusalLaws.{stops, passes, last, hands-on}
use Rattle.plan_lists.proofs.ListLaws.{events-step, events-end}
use Rattle.plan_lists.proofs.event_list_refusal.Goals as goal

pub returns-in_err-probability_test : goal.returns-in_err-probability_test
returns-in_err-probability_test c =
    hands-on _ _ c.from_residual.ensures
    (stops _ _ c.in_err-probability_test.ensures ∙ events-step _ _ _ c.args.words.now (4 * c.loop-i.i) _ (omega arith) ∙ c.loop-i.invariant)

pub returns-in_err-order_test : goal.returns-in_err-order_test
returns-in_err-order_test c =
    hands-on _ _ c.from_residual-in_err-order_test.ensures
    (passes _ c.in_ok-probability_test.ensures (stops _ _ c.in_err-order_test.ensures)
    ∙ events-step _ _ _ c.args.words.now (4 * c.loop-i.i) _ (omega arith)
    ∙ c.loop-i.invariant)

pub returns-in_err-sets_test : goal.returns-in_err-sets_test
returns-in_err-sets_test c =
    hands-on _ _ c.from_residual-in_err-sets_test.ensures
    (passes _ c.in_ok-probability_test.ensures (passes _ c.in_ok-order_test.ensures (stops _ _ c.in_err-sets_test.ensures))
    ∙ events-step _ _ _ c.args.words.now (4 * c.loop-i.i) _ (omega arith)
    ∙ c.loop-i.invariant)

pub loop-i-preserved : goal.loop-i-preserved
loop-i-preserved c =
    let a = c.args in
    let left : a.count - (c.loop-i.i + 1) ≡ a.count - c.loop-i.i - 1 = omega arith in
    let at : 4 * (c.loop-i.i + 1) ≡ 4 * c.loop-i.i + 4 = omega arith in
    rw (left, at)
    (passes _ c.in_ok-probability_test.ensures (passes _ c.in_ok-order_test.ensures (passes _ c.in_ok-sets_test.ensures (last refl)))
    ∙ events-step _ _ _ a.words.now (4 * c.loop-i.i) _ (omega arith)
    ∙ c.loop-i.invariant)

pub returns : goal.returns
returns c = events-end _ _ _ _ _ (omega arith) ∙ c.loop-i.invariant
