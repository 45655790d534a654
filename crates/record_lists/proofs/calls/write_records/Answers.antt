-- `record_lists::calls::write_records` meets its contract: what `write_words` says of the words that `flatten` leaves is what is to be said of the
-- records. Assumes nothing.
use mathlib.Core.Path.{refl, ap, subst, ◌∙◌}
use Prim.Native.Nat.{ℕ, ◌*◌, min}
use mathlib.Core.List.{List}
use lib.ListN.{length, take, replicate}
use Rattle.plan.specs.LentLists.{in_words}
use Rattle.plan_writing.proofs.WriterAnswer.{Outcome}
use Rattle.record_lists.specs.Events.{in_records}
use Rattle.record_lists.proofs.PlanLaws.{used-words, written-list}
use Rattle.record_lists.proofs.calls.write_records.Goals.{After-write_words}
use Rattle.record_lists.proofs.calls.write_records.Goals as goal

concluded : (c : After-write_words)
    → Outcome (in_records c.args.h c.args.links.now c.args.events.now) c.args.out.now c.write_words.new.out c.write_words.result
concluded c =
    let a = c.args in
    let w = c.write_words in
    let k = min (length a.events.now) 128 in
    written-list a.h a.links.now a.out.now w.new.out a.events.now w.result
    (subst (λ (ws : List ℕ). Outcome (in_words a.h a.links.now ws) a.out.now w.new.out w.result)
    (ap (λ (ws : List ℕ). take (4 * k) ws) c.flatten.ensures ∙ used-words a.events.now (replicate 512 0) refl)
    (w.ensures.number, (w.ensures.size, w.ensures.out_after)))

pub returns-clause-number : goal.returns-clause-number
returns-clause-number c = (concluded (goal.at.returns-clause-number c).After-write_words).0

pub returns-clause-size : goal.returns-clause-size
returns-clause-size c = (concluded (goal.at.returns-clause-size c).After-write_words).1.0

pub returns-clause-out_after : goal.returns-clause-out_after
returns-clause-out_after c = (concluded (goal.at.returns-clause-out_after c).After-write_words).1.1
