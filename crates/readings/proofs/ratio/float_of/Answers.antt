-- `readings::ratio::float_of` meets its contract: a mass is at most 10^18, so its quotient and its remainder may be cast. Assumes nothing.
use native.Mathlib.Omega.{arith}
use Rattle.readings.proofs.Figures.{in-float, billion-is, float-of-is}
use Rattle.readings.proofs.ratio.float_of.Goals as goal

pub int_to_float-result : goal.int_to_float-result
int_to_float-result c = in-float _ (omega arith)

pub int_to_float-result-2 : goal.int_to_float-result-2
int_to_float-result-2 c = in-float _ (omega arith)

pub returns : goal.returns
returns c = float-of-is _ _ billion-is
