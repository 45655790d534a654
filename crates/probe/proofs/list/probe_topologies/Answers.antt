-- `probe::list::probe_topologies` meets its contract: the answer of the call is handed out. Assumes nothing.
use mathlib.Core.Path.{◌∙◌, sym}
use Rattle.host_readings.specs.FurtherAnswers.{entries_values}
use Rattle.host_answers.proofs.GivenLaws.{laid-is}
use Rattle.probe.proofs.list.probe_topologies.Goals as goal

pub returns : goal.returns
returns c =
    record {
      number = c.give_entries.ensures.number ∙ (rw c.header-h.ensures at c.topologies.ensures.number);
      list = rw c.header-h.ensures at c.topologies.ensures.list;
      res = c.give_entries.ensures.res ∙ laid-is entries_values 1 c.topologies.result _ _ c.args.res.now (rw c.header-h.ensures at c.topologies.ensures.count) c.give_entries.ensures.number;
    }
