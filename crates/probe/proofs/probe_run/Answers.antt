-- `probe::probe_run` meets its contract: the answer of the call is handed out. Assumes nothing.
use mathlib.Core.Path.{◌∙◌, sym}
use Rattle.host_answers.specs.Answers.{totals_values}
use Rattle.host_answers.proofs.GivenLaws.{laid-is}
use Rattle.probe.proofs.probe_run.Goals as goal

pub returns : goal.returns
returns c =
    record {
      number = c.give_totals.ensures.number ∙ (rw c.header-h.ensures at c.run.ensures.number);
      lowers = rw c.give_totals.ensures.number (rw c.header-h.ensures at c.run.ensures.lowers);
      uppers = rw c.give_totals.ensures.number (rw c.header-h.ensures at c.run.ensures.uppers);
      res = c.give_totals.ensures.res ∙ laid-is totals_values 3 c.run.result _ _ c.args.res.now (rw c.header-h.ensures at c.run.ensures.totals) c.give_totals.ensures.number;
    }
