-- `probe::further::probe_figure` meets its contract: the answer of the call is handed out. Assumes nothing.
use mathlib.Core.Path.{◌∙◌, sym}
use Rattle.host_readings.specs.FurtherAnswers.{figure_values}
use Rattle.host_answers.proofs.GivenLaws.{laid-is}
use Rattle.probe.proofs.further.probe_figure.Goals as goal

pub returns : goal.returns
returns c =
    record {
      number = c.give_figure.ensures.number ∙ (rw c.header-h.ensures at c.figure.ensures.number);
      bits = c.give_figure.ensures.bits ∙ laid-is figure_values 3 c.figure.result _ _ c.args.bits.now (rw c.header-h.ensures at c.figure.ensures.figure) c.give_figure.ensures.number;
    }
