-- `host_readings::credit_words::credit` meets its contract. Assumes nothing.
use mathlib.Core.Path.{◌∙◌}
use Rattle.host_answers.proofs.GivenLaws.{laid-given}
use Rattle.host_readings.specs.CreditAnswers.{credits_values}
use Rattle.host_readings.proofs.credit_words.credit.Goals as goal

pub returns-clause-res : goal.returns-clause-res
returns-clause-res c =
    c.give.ensures.list ∙ laid-given credits_values 3 c.credit-answer.result c.map.result _ _ c.args.res.now c.map.ensures.cases c.credit-answer.ensures.credits c.give.ensures.number
