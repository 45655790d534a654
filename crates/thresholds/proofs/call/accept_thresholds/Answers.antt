-- `thresholds::call::accept_thresholds` meets its contract: the tests in their order. Assumes nothing.
use mathlib.Core.Path.{◌≡◌, sym, ap, subst, ◌∙◌}
use mathlib.Core.List.{List}
use Prim.Native.Nat.{ℕ, ◌≤◌}
use native.Mathlib.Omega.{arith}
use Rattle.mass.proofs.RefusalLaws.{stops, passes, hands-on}
use Rattle.plan.specs.LentLists.{in_words, lists_number}
use Rattle.plan.specs.declared.Header.{Header}
use Rattle.plan_lists.specs.Taken.{Taken}
use Rattle.thresholds.specs.Thresholds.{lent_at, header_at, thresholds_number}
use Rattle.thresholds.specs.declared.CommonHeader.{CommonHeader}
use Rattle.thresholds.proofs.WalkLaws.{size-most}
use Rattle.thresholds.proofs.call.accept_thresholds.Goals as goal

-- what is lent, with the threshold 1
lists-are : (h : CommonHeader) (links events : List ℕ) (x : Header) → x ≡ header_at h 1
    → lists_number (in_words x links events) ≡ lists_number (lent_at h links events 1)
lists-are h links events x e = ap (λ (y : Header). lists_number (in_words y links events)) e

few : (h : CommonHeader) (links events bytes words : List ℕ) (x : Header) → x ≡ header_at h 1 → Taken x links events bytes words → h.nodes ≤ 64
few h links events bytes words x e t =
    (subst (λ (y : Header). Taken y links events bytes words) e t).held.links-held.nodes-fit

pub returns-in_err-accept-clause-number : goal.returns-in_err-accept-clause-number
unfolding thresholds_number
returns-in_err-accept-clause-number c =
    let a = c.args in
    hands-on _ _ c.from_residual.ensures
    (stops _ _ (c.in_err-accept.ensures.number ∙ lists-are a.h a.links.now a.events.now _ c.header_at.ensures))

pub returns-in_err-thresholds_test-clause-number : goal.returns-in_err-thresholds_test-clause-number
unfolding thresholds_number
returns-in_err-thresholds_test-clause-number c =
    let a = c.args in
    hands-on _ _ c.from_residual-in_err-thresholds_test.ensures
    (passes _ (c.in_ok-accept.ensures.number ∙ lists-are a.h a.links.now a.events.now _ c.header_at.ensures)
    (stops _ _ c.in_err-thresholds_test.ensures))

pub overflow_mul-pair_count : goal.overflow_mul-pair_count
overflow_mul-pair_count c =
    let a = c.args in
    omega (
      arith,
      size-most a.h.nodes _ a.list.now (few a.h _ _ _ _ _ c.header_at.ensures c.in_ok-accept.ensures.taken) c.pair_count.ensures (sym c.in_ok-thresholds_test.ensures),
    )

pub returns-clause-number : goal.returns-clause-number
unfolding thresholds_number
returns-clause-number c =
    let a = c.args in
    passes _ (c.in_ok-accept.ensures.number ∙ lists-are a.h a.links.now a.events.now _ c.header_at.ensures)
    (passes _ c.in_ok-thresholds_test.ensures (rw c.pair_count.ensures at c.bounds_test.ensures.number))
