-- `plan_writing::write` meets its contract: where the lists and the output's room pass, the file is laid down whole. Assumes nothing.
use mathlib.Core.Path.{◌≡◌, sym, ap, ◌∙◌}
use mathlib.Core.List.{List}
use Prim.Native.Nat.{ℕ, ◌+◌, ◌*◌, ◌≤◌}
use native.Mathlib.Omega.{arith}
use lib.ListN.{length}
use Rattle.mass.proofs.RefusalLaws.{passes, last, hands-on}
use Rattle.refusals.specs.Tests.{room_test}
use Rattle.refusals.proofs.TestLaws.{Ranges}
use Rattle.plan.specs.Lists.{events_of}
use Rattle.plan.specs.Layout.{layout}
use Rattle.plan.specs.LentLists.{plan_of_lists, in_words, lists_number}
use Rattle.plan.specs.Calls.{write_number}
use Rattle.plan.specs.declared.Header.{Header}
use Rattle.plan_lists.proofs.CopyLaws.{lists-fit}
use Rattle.plan_layout.proofs.ListLaws.{length-events-of}
use Rattle.plan_writing.proofs.SizeLaws.{plan-size, events-most}
use Rattle.plan_writing.proofs.write.Goals.{After-events_size}
use Rattle.plan_writing.proofs.write.Goals as goal

-- lists that pass have counts in range, and room for them
fit : (h : Header) (links words : List ℕ) → 0 ≡ lists_number (in_words h links words)
    → Ranges h.nodes h.links h.events × ((2 * h.links ≤ length links) × (4 * h.events ≤ length words))
fit h links words z = let f = lists-fit _ (sym z) in (f.0, (f.1.0, omega (arith, f.1.1)))

-- the size is that of the file
size : (c : After-events_size)
    → (let a = c.args in
    20 + 2 * a.h.links + c.events_size.result ≡ length (layout (plan_of_lists a.h a.links.now a.events.now)))
size c =
    let a = c.args in
    ap (λ (n : ℕ). 20 + 2 * a.h.links + n) c.events_size.ensures ∙ sym (plan-size a.h a.links.now a.events.now)

-- so the output's room decides once the lists pass
module _ (c : After-events_size) (x : ℕ) where
  pub decided : (let a = c.args in x ≡ room_test (length a.out.now) (20 + 2 * a.h.links + c.events_size.result)
      → x ≡ write_number (in_words a.h a.links.now a.events.now) (length a.out.now))
  unfolding write_number
  decided e = passes _ c.in_ok-lists_refusal.ensures (last (e ∙ ap (room_test (length c.args.out.now)) (size c)))

pub overflow_mul-size : goal.overflow_mul-size
overflow_mul-size c = let f = fit c.args.h _ _ c.in_ok-lists_refusal.ensures in omega (arith, f.0.links-fit)

pub overflow_add-size : goal.overflow_add-size
overflow_add-size c = let f = fit c.args.h _ _ c.in_ok-lists_refusal.ensures in omega (arith, f.0.links-fit)

pub events_size-requires : goal.events_size-requires
events_size-requires c = let f = fit c.args.h _ _ c.in_ok-lists_refusal.ensures in omega (arith, f.0.events-fit, f.1.1)

pub overflow_add-size-2 : goal.overflow_add-size-2
overflow_add-size-2 c =
    let a = c.args in
    let f = fit a.h _ _ c.in_ok-lists_refusal.ensures in
    omega (
      arith,
      f.0.links-fit,
      f.0.events-fit,
      c.events_size.ensures,
      events-most (events_of a.h.events a.events.now),
      length-events-of a.h.events a.events.now,
    )

pub returns-in_err-room_test-clause-number : goal.returns-in_err-room_test-clause-number
returns-in_err-room_test-clause-number c =
    hands-on _ _ c.from_residual-in_err-room_test.ensures
    (decided (goal.at.returns-in_err-room_test-clause-number c).After-events_size _ c.in_err-room_test.ensures.number)

pub put_plan-requires-clause-nodes_bound : goal.put_plan-requires-clause-nodes_bound
put_plan-requires-clause-nodes_bound c =
    let f = fit c.args.h _ _ c.in_ok-lists_refusal.ensures in
    omega (arith, f.0.nodes-fit, f.0.links-fit, f.0.events-fit)

pub put_plan-requires-clause-links_in_bounds : goal.put_plan-requires-clause-links_in_bounds
put_plan-requires-clause-links_in_bounds c = (fit c.args.h _ _ c.in_ok-lists_refusal.ensures).1

pub put_plan-requires-clause-words_in_bounds : goal.put_plan-requires-clause-words_in_bounds
put_plan-requires-clause-words_in_bounds c =
    let s = size (goal.at.put_plan-requires-clause-words_in_bounds c).After-events_size in
    omega (arith, s, c.in_ok-room_test.ensures.there)

pub returns-clause-number : goal.returns-clause-number
returns-clause-number c = decided (goal.at.returns-clause-number c).After-events_size _ c.in_ok-room_test.ensures.number

pub returns-clause-size : goal.returns-clause-size
returns-clause-size c = size (goal.at.returns-clause-size c).After-events_size
