-- `topology_list::ends::topology_of` meets its contract. Assumes nothing.
use native.Mathlib.Omega.{arith}
use Rattle.topology_list.proofs.WorkingSets.{topology-after}
use Rattle.topology_list.proofs.ends.topology_of.Goals as goal

pub working_links-up-requires : goal.working_links-up-requires
working_links-up-requires c = c.requires.held.links-held.links-fit

pub returns : goal.returns
returns c =
    topology-after _ _ _ _ _ c.requires.high_bound _ c.failed_by-failed.ensures _ _ _ (omega arith) (omega arith) (omega arith)
    c.working_nodes-nodes.ensures (c.working_links-up.ensures _ _ c.requires.held.links-held c.requires.links_at)
