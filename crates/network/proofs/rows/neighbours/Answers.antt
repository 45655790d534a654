-- `network::rows::neighbours` meets its contract: the links of the low word, and then those of the high word. Assumes nothing.
use native.Mathlib.Omega.{arith}
use Rattle.network.specs.Code.{outage}
use Rattle.network.proofs.Adjacent.{low_below, high-below, rows-adjacent}
use Rattle.network.proofs.rows.neighbours.Goals as goal

pub put_in-requires-clause-by_index : goal.put_in-requires-clause-by_index
put_in-requires-clause-by_index c =
    let a = c.args in
    let up = c.working_links-up.ensures a.n a.links.now c.requires.links_held c.requires.links_at in
    low_below a.n a.count a.links.now (outage a.failed) c.working_links-up.result.low c.working_links-up.result.high (omega arith) (omega arith) up

pub put_in-requires-2-clause-by_index : goal.put_in-requires-2-clause-by_index
put_in-requires-2-clause-by_index c =
    let a = c.args in
    let up = c.working_links-up.ensures a.n a.links.now c.requires.links_held c.requires.links_at in
    high-below a.n a.count a.links.now (outage a.failed) c.working_links-up.result.low c.working_links-up.result.high (omega arith) (omega arith) up

pub returns : goal.returns
returns c =
    let a = c.args in
    let up = c.working_links-up.ensures a.n a.links.now c.requires.links_held c.requires.links_at in
    rows-adjacent a.n a.count a.links.now (outage a.failed) c.working_links-up.result.low c.working_links-up.result.high (omega arith) (omega arith) up
    c.put_in.new.rows c.put_in-2.new.rows
    c.put_in.ensures.rows
    c.put_in-2.ensures.rows
