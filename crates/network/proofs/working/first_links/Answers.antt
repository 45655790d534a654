-- `network::working::first_links` meets its contract: the first 64 stand in the low word, the others in the high one. Assumes nothing.
use native.Mathlib.Omega.{arith}
use Rattle.network.proofs.NodeLinks.{first-words}
use Rattle.network.proofs.working.first_links.Goals as goal

pub returns : goal.returns
returns c =
    first-words c.args.count c.all_below.result c.all_below-2.result (omega arith)
    (rw c.min.ensures at c.all_below.ensures)
    (rw c.saturating_sub.ensures at c.all_below-2.ensures)
