-- `wellember::host::give_pair` meets its contract: what is laid down is read back. Assumes nothing.
use native.Mathlib.Omega.{arith}
use Rattle.plan.specs.File.{plan_of}
use Rattle.wellember.proofs.HostLaws.{laid-enclose}
use Rattle.wellember.proofs.host.give_pair.Goals as goal

pub returns-clause-demand3 : goal.returns-clause-demand3
returns-clause-demand3 c =
    let a = c.args in
    let found = c.in_ok-found.ensures in
    laid-enclose (plan_of a.s.now) a.out.now _ a.v a.w _ found.there c.put_bounds.ensures (omega arith) (omega arith) found.demand3
