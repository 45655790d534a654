-- `topology::pairs::is_disconnected` meets its contract: w is not among what v reaches. Assumes nothing.
use Rattle.network.specs.Code.{network_in}
use Rattle.topology.proofs.RowLinks.{absent, connected-bit}
use Rattle.topology.proofs.pairs.is_disconnected.Goals as goal

pub returns : goal.returns
returns c =
    let a = c.args in
    let found = c.reach_from-found in
    let net = network_in a.n a.failed a.links.now a.count in
    absent c.at.result found.result.set a.w _
    c.at.ensures
    (connected-bit net a.v found.result.set a.w (found.ensures.paths a.w))
