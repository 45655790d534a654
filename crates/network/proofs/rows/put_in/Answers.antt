-- `network::rows::put_in` meets its contract. The loop's invariant: with the links still to come put in, the rows are what they are to be. Assumes nothing.
use Rattle.network.proofs.RowSets.{putting-next, putting-all}
use Rattle.network.proofs.rows.put_in.Goals as goal

pub loop-i-preserved : goal.loop-i-preserved
loop-i-preserved c =
    let a = c.args in
    putting-next a.links.now a.base a.set a.rows.now c.loop-i.rows c.join.new.rows _ _ c.in-Some.ensures.steps c.ends-low.ensures.is
    c.join.ensures.size
    c.join.ensures.rows
    c.loop-i.invariant

pub returns-clause-rows : goal.returns-clause-rows
returns-clause-rows c =
    let a = c.args in
    putting-all a.links.now a.base a.set a.rows.now c.loop-i.rows c.loop-i.i-iterator.left c.in-None.ensures.steps.0 c.loop-i.invariant
