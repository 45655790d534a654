-- `host_reach::reach_of` meets its contract: the links in the array are the lent ones. Assumes nothing.
use mathlib.Core.Path.{◌∙◌}
use native.Mathlib.Omega.{arith}
use Rattle.host_reach.proofs.ReachLaws.{same-links}
use Rattle.host_reach.proofs.reach_of.Goals as goal

pub links_at-table-requires : goal.links_at-table-requires
links_at-table-requires c = c.in_ok-accept_links.ensures.taken.held

pub reach_from-requires : goal.reach_from-requires
reach_from-requires c =
    let held = c.in_ok-accept_links.ensures.taken.held in
    record {
      links_held = held;
      links_at = c.links_at-table.ensures;
      v_bound = omega (arith, c.in_ok-node_test.ensures.inside, held.nodes-fit);
    }

pub returns-clause-reach : goal.returns-clause-reach
returns-clause-reach c =
    let a = c.args in
    c.reach_from.ensures.rounds ∙ same-links a.nodes a.count a.links.now _ a.failed a.v c.in_ok-accept_links.ensures.taken
