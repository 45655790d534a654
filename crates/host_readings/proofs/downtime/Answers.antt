-- `host_readings::downtime` meets its contract. Assumes nothing.
use mathlib.Core.Path.{◌∙◌}
use Rattle.host_answers.proofs.GivenLaws.{laid-given}
use Rattle.host_readings.specs.FurtherAnswers.{seconds_values}
use Rattle.host_readings.proofs.downtime.Goals as goal

pub returns-clause-res : goal.returns-clause-res
returns-clause-res c =
    c.give.ensures.list ∙ laid-given seconds_values 2 c.downtime.result c.map.result _ _ c.args.res.now c.map.ensures.cases c.downtime.ensures.seconds c.give.ensures.number
