-- `sets::union` meets its contract. Assumes nothing.
use Rattle.sets.proofs.Laws.{bit-or}
use Rattle.sets.proofs.union.Goals as goal

pub returns : goal.returns
returns c = bit-or c.args.a c.args.b
