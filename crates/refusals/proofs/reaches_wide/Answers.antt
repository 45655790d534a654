-- `refusals::reaches_wide` meets its contract: elements from 64 on stand in the high word. Assumes nothing.
use mathlib.Core.Path.{◌∙◌}
use Rattle.refusals.proofs.ReachLaws.{reach-high}
use Rattle.refusals.proofs.reaches_wide.Goals as goal

pub returns-then-count-ge64 : goal.returns-then-count-ge64
returns-then-count-ge64 c = c.reaches.ensures ∙ reach-high _ _ _ c.if-count-ge64.true c.ranges.low.fits
