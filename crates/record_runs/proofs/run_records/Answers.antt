-- `record_runs::run_records` meets its contract: what `run_words` says of the words that `flatten` leaves is what is to be said of the records.
-- Assumes nothing.
use mathlib.Core.Path.{refl, ap, subst, ◌∙◌}
use Prim.Native.Nat.{ℕ, ◌*◌, min}
use mathlib.Core.List.{List}
use lib.ListN.{length, take, replicate}
use Rattle.plan.specs.LentLists.{in_words}
use Rattle.record_lists.specs.Events.{in_records}
use Rattle.record_lists.proofs.PlanLaws.{used-words}
use Rattle.record_runs.proofs.RunLaws.{Outcome, run-concluded}
use Rattle.record_runs.proofs.run_records.Goals.{After-run_words}
use Rattle.record_runs.proofs.run_records.Goals as goal

concluded : (c : After-run_words)
    → let a = c.args in
    let r = c.run_words in
    Outcome (in_records a.h a.links.now a.events.now) a.lower.now a.upper.now r.result r.new.lower r.new.upper
concluded c =
    let a = c.args in
    let r = c.run_words in
    let k = min (length a.events.now) 128 in
    run-concluded a.h a.links.now a.events.now a.lower.now a.upper.now r.result r.new.lower r.new.upper
    (subst (λ (ws : List ℕ). Outcome (in_words a.h a.links.now ws) a.lower.now a.upper.now r.result r.new.lower r.new.upper)
    (ap (λ (ws : List ℕ). take (4 * k) ws) c.flatten.ensures ∙ used-words a.events.now (replicate 512 0) refl)
    (r.ensures.number, (r.ensures.totals, (r.ensures.lowers, (r.ensures.uppers, r.ensures.demand3)))))

pub returns-clause-number : goal.returns-clause-number
returns-clause-number c = (concluded (goal.at.returns-clause-number c).After-run_words).0

pub returns-clause-totals : goal.returns-clause-totals
returns-clause-totals c = (concluded (goal.at.returns-clause-totals c).After-run_words).1.0

pub returns-clause-lowers : goal.returns-clause-lowers
returns-clause-lowers c = (concluded (goal.at.returns-clause-lowers c).After-run_words).1.1.0

pub returns-clause-uppers : goal.returns-clause-uppers
returns-clause-uppers c = (concluded (goal.at.returns-clause-uppers c).After-run_words).1.1.1.0

pub returns-clause-demand3 : goal.returns-clause-demand3
returns-clause-demand3 c = (concluded (goal.at.returns-clause-demand3 c).After-run_words).1.1.1.1
