-- `probe::probe_write` meets its contract: the answer of the call is handed out. Assumes nothing.
use mathlib.Core.Path.{◌∙◌, sym}
use Rattle.host_answers.specs.Answers.{size_values}
use Rattle.host_answers.proofs.GivenLaws.{laid-is}
use Rattle.probe.proofs.probe_write.Goals as goal

pub returns : goal.returns
returns c =
    record {
      number = c.give_size.ensures.number ∙ (rw c.header-h.ensures at c.write.ensures.number);
      out = rw c.give_size.ensures.number (rw c.header-h.ensures at c.write.ensures.out_after);
      size = c.give_size.ensures.size ∙ laid-is size_values 1 c.write.result _ _ c.args.size.now (rw c.header-h.ensures at c.write.ensures.size) c.give_size.ensures.number;
    }
