-- `probe::by_records::probe_run_plan` meets its contract: the answer of the call is handed out. Assumes nothing.
use mathlib.Core.Path.{◌∙◌, sym}
use Rattle.host_answers.specs.Answers.{totals_values}
use Rattle.host_answers.proofs.GivenLaws.{laid-is}
use Rattle.probe.proofs.by_records.probe_run_plan.Goals as goal

pub returns : goal.returns
returns c =
    record {
      number = c.give_totals.ensures.number ∙ c.run_plan.ensures.number;
      lowers = rw c.give_totals.ensures.number (c.run_plan.ensures.lowers);
      uppers = rw c.give_totals.ensures.number (c.run_plan.ensures.uppers);
      res = c.give_totals.ensures.res ∙ laid-is totals_values 3 c.run_plan.result _ _ c.args.res.now (c.run_plan.ensures.totals) c.give_totals.ensures.number;
    }
