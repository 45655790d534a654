-- `probe::further::probe_witness` meets its contract: the answer of the call is handed out. Assumes nothing.
use mathlib.Core.Path.{◌∙◌, sym}
use Rattle.host_readings.specs.FurtherAnswers.{failing_values}
use Rattle.host_answers.proofs.GivenLaws.{laid-is}
use Rattle.probe.proofs.further.probe_witness.Goals as goal

pub returns : goal.returns
returns c =
    record {
      number = c.give_failing.ensures.number ∙ (rw c.header-h.ensures at c.witness.ensures.number);
      res = c.give_failing.ensures.res ∙ laid-is failing_values 2 c.witness.result _ _ c.args.res.now (rw c.header-h.ensures at c.witness.ensures.set) c.give_failing.ensures.number;
    }
