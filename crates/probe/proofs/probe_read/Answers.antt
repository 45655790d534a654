-- `probe::probe_read` meets its contract: the answer of the call is handed out. Assumes nothing.
use mathlib.Core.Path.{◌∙◌, sym}
use Rattle.host_answers.specs.Answers.{header_values}
use Rattle.host_answers.proofs.GivenLaws.{laid-is}
use Rattle.probe.proofs.probe_read.Goals as goal

pub returns : goal.returns
returns c =
    record {
      number = c.give_header.ensures.number ∙ c.read.ensures.number;
      links = rw c.give_header.ensures.number (c.read.ensures.links);
      events = rw c.give_header.ensures.number (c.read.ensures.events);
      numbers = c.give_header.ensures.numbers ∙ laid-is header_values 5 c.read.result _ _ c.args.numbers.now (c.read.ensures.header) c.give_header.ensures.number;
    }
