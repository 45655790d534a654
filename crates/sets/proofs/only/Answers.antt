-- `sets::only` meets its contract. Assumes nothing.
use Rattle.sets.proofs.Digits.{only-is}
use Rattle.sets.proofs.only.Goals as goal

pub returns : goal.returns
returns c = λ j. only-is c.args.on c.args.i j c.requires.0 c.requires.1
