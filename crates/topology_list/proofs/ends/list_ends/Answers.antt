-- `topology_list::ends::list_ends` meets its contract: the invariant is `Turn`, the measure the ends left. Assumes nothing.
use Rattle.std.proofs.lemmas.Result.{err_from_is_err_and}
use mathlib.Core.Path.{refl}
use Rattle.mass.proofs.RefusalLaws.{number-some}
use Rattle.topology_list.proofs.Turn.{ended, may-place, stopped, turned, turn-begun}
use Rattle.topology_list.proofs.ends.list_ends.Goals as goal

pub loop-x-init : goal.loop-x-init
loop-x-init c = turn-begun _ _ _ _ _ _ c.requires.masses_fit

pub returns-in_default : goal.returns-in_default
returns-in_default c =
    ended _ _ _ _ _ _ _ _ _ _ _ _ c.loop-x.invariant _ _ c.next_relevant-r.ensures c.in_default.is

pub place_topology-requires : goal.place_topology-requires
place_topology-requires c =
    may-place _ _ _ _ _ _ _ _ _ _ _ _ c.loop-x.invariant _ _ c.next_relevant-r.ensures c.in-Some.is

pub returns-in_err-count : goal.returns-in_err-count
returns-in_err-count c =
    let p = err_from_is_err_and c.from_residual.result c.from_residual.ensures.1 in
    rw (p.1, p.2)
    (stopped _ _ _ _ _ _ _ _ _ _ _ _ c.loop-x.invariant _ _ c.next_relevant-r.ensures c.in-Some.is
    _ c.topology_of-t.ensures _ _ c.in_err-count.ensures (number-some _))

pub loop-x-preserved : goal.loop-x-preserved
loop-x-preserved c =
    turned _ _ _ _ _ _ _ _ _ _ _ _ c.loop-x.invariant _ _ c.next_relevant-r.ensures c.in-Some.is
    _ c.topology_of-t.ensures _ _ c.in_ok-count.ensures _ refl
