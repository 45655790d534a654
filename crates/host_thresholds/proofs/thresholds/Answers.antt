-- `host_thresholds::thresholds` meets its contract: the answer of the call is handed out. Assumes nothing.
use mathlib.Core.Path.{sym, ◌∙◌, ap}
use Prim.Native.Nat.{ℕ}
use Rattle.plan.specs.Calls.{filled}
use Rattle.network.specs.Outage.{intact}
use Rattle.bounds.specs.Bounds.{lower_list, upper_list}
use Rattle.thresholds.specs.Thresholds.{plan_at, thresholds_answer, blocks}
use Rattle.thresholds.specs.declared.Answered.{Answered}
use Rattle.host_answers.specs.Laid.{laid}
use Rattle.host_thresholds.specs.ThresholdAnswers.{places_values}
use Rattle.host_thresholds.proofs.PlaceLaws.{handed}
use Rattle.host_thresholds.proofs.thresholds.Goals as goal

pub returns : goal.returns
returns c =
    let a = c.args in
    let plans = plan_at a.h a.links.now a.events.now in
    let t = c.thresholds-answer.ensures in
    let own = sym c.number_in.ensures in
    record {
      number = c.number_in.ensures ∙ t.number;
      lowers = t.lowers ∙ ap (λ (n : ℕ). filled n (blocks (λ t. lower_list intact (plans t)) a.list.now) a.lower.now) own;
      uppers = t.uppers ∙ ap (λ (n : ℕ). filled n (blocks (λ t. upper_list intact (plans t)) a.list.now) a.upper.now) own;
      res = c.give_places.ensures
          ∙ ap (λ (x : Answered). laid (places_values x) a.res.now) (handed _ plans a.list.now _ c.answer_in.ensures t.answer ∙ ap (λ (n : ℕ). thresholds_answer n plans a.list.now) own);
    }
