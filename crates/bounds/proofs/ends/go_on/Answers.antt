-- `bounds::ends::go_on` meets its contract: the invariant is `Turn`, the measure the ends left. Assumes nothing.
use Rattle.bounds.proofs.Examining.{first_fits, examined}
use Rattle.bounds.proofs.Turn.{stopped, room, turned}
use Rattle.bounds.proofs.ends.go_on.Goals as goal

pub returns-in_default : goal.returns-in_default
returns-in_default c = stopped _ _ _ c.loop-x.invariant _ _ c.next_relevant-step.ensures c.in_default.is

pub examine-requires-clause-blocks_fit : goal.examine-requires-clause-blocks_fit
examine-requires-clause-blocks_fit c =
    let g = c.loop-x.invariant in
    first_fits _ _ _ g.ready.held.links-held.nodes-fit (room _ _ _ g _ _ c.next_relevant-step.ensures c.in-Some.is)

pub loop-x-preserved : goal.loop-x-preserved
loop-x-preserved c =
    let g = c.loop-x.invariant in
    let s = c.next_relevant-step.ensures in
    let found = c.in-Some.is in
    turned _ _ _ g _ _ s found _
    (examined _ _ _ _ _ g.ready.held.links-held.nodes-fit (room _ _ _ g _ _ s found) c.examine.ensures)
