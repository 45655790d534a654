-- `topology_list::entries::place_topology` meets its contract, each of the three ways. Assumes nothing.
use Rattle.std.proofs.lemmas.Result.{err_from_is_err_and}
use native.Mathlib.Omega.{arith}
use Rattle.topology_list.proofs.PlaceLaws.{mass-fits, placed-known, placed-full, placed-new}
use Rattle.topology_list.proofs.entries.place_topology.Goals as goal

pub raise-requires : goal.raise-requires
raise-requires c =
    let found = c.in-Some.ensures in
    (omega (arith, c.requires.room, found.0), mass-fits _ _ _ _ _ c.requires found.1 found.0)

pub returns-in-Some : goal.returns-in-Some
returns-in-Some c =
    let found = c.in-Some.ensures in
    rw c.raise.ensures (placed-known _ _ _ _ _ c.requires found.1 found.0)

pub returns-in_err-when : goal.returns-in_err-when
returns-in_err-when c =
    let p = err_from_is_err_and c.from_residual.result c.from_residual.ensures.1 in
    rw (p.1, p.2) (placed-full _ _ _ _ _ c.requires c.in_default.ensures (omega arith) _ c.in_err-when.ensures)

pub returns : goal.returns
returns c = rw c.put.ensures (placed-new _ _ _ _ _ c.requires c.in_default.ensures (omega arith) c.in_ok-when.ensures)
