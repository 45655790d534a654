-- `sets::less` meets its contract. Assumes nothing.
use Rattle.sets.proofs.Laws.{bit-less}
use Rattle.sets.proofs.less.Goals as goal

pub returns : goal.returns
returns c = bit-less c.args.a c.args.b
