-- `network::failing::beside` meets its contract: two words united are the union of their sets. Assumes nothing.
use native.Mathlib.Omega.{arith}
use Rattle.network.proofs.Events.{joined-or}
use Rattle.network.proofs.failing.beside.Goals as goal

pub returns : goal.returns
returns c =
    let a = c.args in
    rw (joined-or a.f.low a.f.high a.more.low a.more.high (omega arith) (omega arith))
