-- `host_reach::reach` meets its contract. Assumes nothing.
use mathlib.Core.Path.{◌∙◌}
use Rattle.host_answers.proofs.GivenLaws.{laid-given}
use Rattle.host_reach.specs.NodeReach.{reach_values}
use Rattle.host_reach.proofs.reach.Goals as goal

pub returns-clause-res : goal.returns-clause-res
returns-clause-res c =
    c.give.ensures.list
    ∙ laid-given reach_values 2 c.reach_of.result c.map.result _ _ c.args.res.now c.map.ensures.cases c.reach_of.ensures.reach c.give.ensures.number
