-- `host_answers::lay::give` meets its contract: one value after the other. Assumes nothing.
use mathlib.Core.Path.{◌∙◌}
use native.Mathlib.Omega.{arith}
use Rattle.host_answers.proofs.LaidLaws.{laid_more}
use Rattle.host_answers.proofs.lay.give.Goals as goal

pub loop-i-preserved : goal.loop-i-preserved
loop-i-preserved g c =
    c.put.ensures ∙ laid_more c.unwrap_or-values.result c.args.list.now c.loop-i.list c.loop-i.i c.loop-i.invariant (omega arith)
