-- `sets::both` meets its contract. Assumes nothing.
use Rattle.sets.proofs.Laws.{bit-and}
use Rattle.sets.proofs.both.Goals as goal

pub returns : goal.returns
returns c = bit-and c.args.a c.args.b
