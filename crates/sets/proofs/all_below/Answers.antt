-- `sets::all_below` meets its contract. Assumes nothing.
use Rattle.sets.proofs.Digits.{first-is, all-is}
use Rattle.sets.proofs.all_below.Goals as goal

pub returns-then-k-lt64 : goal.returns-then-k-lt64
returns-then-k-lt64 c = λ j. first-is c.args.k j c.if-k-lt64.true

pub returns : goal.returns
returns c = λ j. all-is c.args.k j c.requires c.if-k-lt64.false
