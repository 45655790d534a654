-- `pairs::add::add_row` meets its contract: the invariant is `RowTurn`. Assumes nothing.
use Rattle.pairs.proofs.Row.{row_done, row-turned}
use Rattle.pairs.proofs.add.add_row.Goals as goal

pub loop-w-preserved : goal.loop-w-preserved
loop-w-preserved c = row-turned c.loop-w.invariant c.in-Some.ensures.steps

pub returns : goal.returns
returns c = row_done c.loop-w.invariant c.in-None.ensures.steps.0
