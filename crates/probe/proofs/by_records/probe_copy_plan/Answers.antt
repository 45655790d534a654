-- `probe::by_records::probe_copy_plan` meets its contract: the answer of the call is handed out. Assumes nothing.
use mathlib.Core.Path.{◌∙◌, sym}
use Rattle.host_answers.specs.Answers.{size_values}
use Rattle.host_answers.proofs.GivenLaws.{laid-is}
use Rattle.probe.proofs.by_records.probe_copy_plan.Goals as goal

pub returns : goal.returns
returns c =
    record {
      number = c.give_size.ensures.number ∙ c.copy_plan.ensures.number;
      out = rw c.give_size.ensures.number (c.copy_plan.ensures.out);
      size = c.give_size.ensures.size ∙ laid-is size_values 1 c.copy_plan.result _ _ c.args.size.now (c.copy_plan.ensures.size) c.give_size.ensures.number;
    }
