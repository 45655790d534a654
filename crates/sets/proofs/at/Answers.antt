-- `sets::at` meets its contract. Assumes nothing.
use Rattle.sets.proofs.Digits.{digit-is}
use Rattle.sets.proofs.at.Goals as goal

pub returns : goal.returns
returns c = digit-is c.args.set c.args.i
