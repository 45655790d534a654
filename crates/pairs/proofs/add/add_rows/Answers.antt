-- `pairs::add::add_rows` meets its contract: the invariant is `RowsTurn`. Assumes nothing.
use Prim.Native.Nat.{◌≤◌}
use native.Mathlib.Omega.{arith}
use Rattle.pairs.proofs.PairLaws.{start-most}
use Rattle.pairs.proofs.Rows.{rows-done, rows-stopped, row-asked, rows-turned}
use Rattle.pairs.proofs.add.add_rows.Goals as goal

pub returns-then-later-eq0 : goal.returns-then-later-eq0
returns-then-later-eq0 c =
    rows-stopped c.loop-v.invariant c.in-Some.ensures.steps _ c.all_below.ensures _ c.less-later.ensures c.if-later-eq0.true

pub overflow_add-start_of : goal.overflow_add-start_of
overflow_add-start_of c =
    let g = c.loop-v.invariant in
    let within : c.in-Some.v ≤ c.args.n = omega (arith, g.asked.nodes _ (g.sub _ c.in-Some.ensures.steps.found)) in
    omega (arith, g.asked.low, c.start_of.ensures, start-most _ _ g.asked.few within)

pub add_row-requires : goal.add_row-requires
add_row-requires c =
    rw c.start_of.ensures (row-asked c.loop-v.invariant c.in-Some.ensures.steps _ c.all_below.ensures _ c.less-later.ensures)

pub loop-v-preserved : goal.loop-v-preserved
loop-v-preserved c =
    rows-turned c.loop-v.invariant c.in-Some.ensures.steps _ c.all_below.ensures _ c.less-later.ensures (rw c.start_of.ensures at c.add_row.ensures)

pub returns : goal.returns
returns c = rows-done c.loop-v.invariant c.in-None.ensures.steps.0
