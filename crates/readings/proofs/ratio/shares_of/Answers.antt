-- `readings::ratio::shares_of` meets its contract. Assumes nothing.
use Rattle.readings.proofs.Figures.{whole_is, shares-are}
use Rattle.readings.proofs.ratio.shares_of.Goals as goal

pub returns : goal.returns
returns c = shares-are _ _ _ _ _ c.float_of.ensures c.float_of-all.ensures whole_is
