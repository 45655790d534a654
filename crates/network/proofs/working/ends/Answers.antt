-- `network::working::ends` meets its contract: the ends of a link are nodes. Assumes nothing.
use native.Mathlib.Omega.{arith}
use Rattle.network.proofs.LinkBytes.{link-below}
use Rattle.network.proofs.working.ends.Goals as goal

pub returns-clause-within : goal.returns-clause-within
returns-clause-within c =
    let a = c.args in
    let held = c.requires.links_held in
    let below = link-below a.n a.count a.links.now a.i held.ends-below c.requires.i_lt_count in
    (grind (arith, below.0, held.nodes-fit), omega (arith, below.1, held.nodes-fit))
