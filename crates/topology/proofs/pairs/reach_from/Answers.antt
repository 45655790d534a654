-- `topology::pairs::reach_from` meets its contract: the rows show the network. Assumes nothing.
use mathlib.Core.Path.{◌∙◌}
use Rattle.plan.specs.Lists.{links_of}
use Rattle.network.specs.Code.{outage, network_in}
use Rattle.topology.proofs.RowLinks.{nodes-shown, reached-is, rounds-are}
use Rattle.topology.proofs.pairs.reach_from.Goals as goal

pub returns : goal.returns
returns c =
    let a = c.args in
    let net = network_in a.n a.failed a.links.now a.count in
    let nodes = c.working_nodes-nodes in
    let up = nodes-shown a.n (links_of a.count a.links.now) (outage a.failed) nodes.result nodes.ensures in
    let rows = c.neighbours-rows in
    record {
      paths = reached-is net nodes.result rows.result up rows.ensures a.v c.reach.result.set c.reach.ensures.paths;
      rounds = c.reach.ensures.rounds ∙ rounds-are net nodes.result rows.result up rows.ensures c.requires.links_held.nodes-fit a.v;
    }
