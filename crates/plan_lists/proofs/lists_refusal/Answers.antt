-- `plan_lists::lists_refusal` meets its contract: the tests in their order. Assumes nothing.
use mathlib.Core.List.{List, [], ◌∷◌}
use Prim.Native.Nat.{ℕ}
use Rattle.mass.proofs.RefusalLaws.{stops, passes, last, stops-run, passes-run, hands-on}
use Rattle.refusals.specs.Tests.{counts_test, threshold_test, cap_test}
use Rattle.plan.specs.LentLists.{lists_number}
use Rattle.plan.specs.declared.Header.{Header}
use Rattle.plan_lists.proofs.lists_refusal.Goals as goal

-- the tests 4 to 6
abbrev numbers : Header → List ℕ
numbers h = counts_test h.nodes h.links h.events ∷ threshold_test h.threshold ∷ cap_test h.cap ∷ []

pub returns-in_err-numbers_test : goal.returns-in_err-numbers_test
unfolding lists_number
returns-in_err-numbers_test c = hands-on _ _ c.from_residual.ensures (stops-run _ (numbers c.args.h) _ c.in_err-numbers_test.ensures.number)

pub returns-in_err-room_test : goal.returns-in_err-room_test
unfolding lists_number
returns-in_err-room_test c =
    hands-on _ _ c.from_residual-in_err-room_test.ensures
    (passes-run (numbers c.args.h) _ c.in_ok-numbers_test.ensures.number (stops _ _ c.in_err-room_test.ensures.number))

pub returns-in_err-room_test-2 : goal.returns-in_err-room_test-2
unfolding lists_number
returns-in_err-room_test-2 c =
    hands-on _ _ c.from_residual-in_err-room_test-2.ensures
    (passes-run (numbers c.args.h) _ c.in_ok-numbers_test.ensures.number (passes _ c.in_ok-room_test.ensures.number (stops _ _ c.in_err-room_test-2.ensures.number)))

pub returns-in_err-link_list_refusal : goal.returns-in_err-link_list_refusal
unfolding lists_number
returns-in_err-link_list_refusal c =
    hands-on _ _ c.from_residual-in_err-link_list_refusal.ensures
    (passes-run (numbers c.args.h) _ c.in_ok-numbers_test.ensures.number
    (passes _ c.in_ok-room_test.ensures.number (passes _ c.in_ok-room_test-2.ensures.number (stops _ _ c.in_err-link_list_refusal.ensures))))

pub returns : goal.returns
unfolding lists_number
returns c =
    passes-run (numbers c.args.h) _ c.in_ok-numbers_test.ensures.number
    (passes _ c.in_ok-room_test.ensures.number
    (passes _ c.in_ok-room_test-2.ensures.number (passes _ c.in_ok-link_list_refusal.ensures (last c.event_list_refusal.ensures))))
