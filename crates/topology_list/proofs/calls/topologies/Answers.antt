-- `topology_list::calls::topologies` meets its contract: the tests of the lists, then what the walk gave. Assumes nothing.
use Rattle.mass.proofs.RefusalLaws.{stops, passes, last, hands-on}
use Rattle.topology_list.specs.Calls.{topologies_number}
use Rattle.topology_list.proofs.Answers.{gave_lent, left_in}
use Rattle.topology_list.proofs.calls.topologies.Goals as goal

pub returns-in_err-accept-clause-number : goal.returns-in_err-accept-clause-number
unfolding topologies_number
returns-in_err-accept-clause-number c = hands-on _ _ c.from_residual.ensures (stops _ _ c.in_err-accept.ensures.number)

pub returns-clause-number : goal.returns-clause-number
unfolding topologies_number
returns-clause-number c =
    passes _ c.in_ok-accept.ensures.number (last (gave_lent _ _ _ _ _ _ c.in_ok-accept.ensures.taken _ _ c.list_all.ensures).number)

pub returns-clause-list : goal.returns-clause-list
returns-clause-list c =
    left_in _ _ _ _ _ _ c.in_ok-accept.ensures.taken _ _ c.list_all.ensures c.in_ok-accept.ensures.number
