-- `plan::file::event_refusal` meets its contract: the tests of the event, on its bytes. Assumes nothing.
use mathlib.Core.Path.{sym, ◌∙◌, ap}
use Prim.Native.Nat.{ℕ, ◌+◌}
use lib.ListN.{drop}
use Rattle.mass.specs.Split.{probability_test}
use Rattle.mass.proofs.RefusalLaws.{passes, last}
use Rattle.refusals.specs.Tests.{short_test, order_test}
use Rattle.plan.specs.File.{members_refusal}
use Rattle.plan.proofs.FileLawsSteps.{event-step}
use Rattle.plan.proofs.file.event_refusal.Goals as goal

pub returns-clause-number : goal.returns-clause-number
returns-clause-number c =
    let a = c.args in
    passes _ (c.in_ok-short_test.ensures.number ∙ ap (λ (l : ℕ). short_test l 5) c.left_of.ensures)
    (passes _ (c.in_ok-probability_test.ensures ∙ ap probability_test c.number_at-q.ensures)
    (passes _ (c.in_ok-order_test.ensures ∙ ap (order_test a.before) c.number_at-q.ensures)
    (last (c.members_refusal.ensures ∙ ap (λ (k : ℕ). members_refusal a.nodes a.links 0 k (drop (a.at + 5) a.s.now)) c.byte_at.ensures.is))))
    ∙ sym (event-step _ _ _ a.at a.s.now)
