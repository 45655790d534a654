-- `plan_reading::reader::read_test` meets its contract: a plan that the check accepts has a header. Assumes nothing.
use mathlib.Core.Path.{sym}
use native.Mathlib.Omega.{arith}
use Rattle.plan.proofs.FileLawsAccepted.{plan-fits}
use Rattle.plan_reading.proofs.reader.read_test.Goals as goal

pub byte_at-requires : goal.byte_at-requires
byte_at-requires c = omega (arith, plan-fits _ (sym c.in_ok-check.ensures))

pub byte_at-requires-2 : goal.byte_at-requires-2
byte_at-requires-2 c = omega (arith, plan-fits _ (sym c.in_ok-check.ensures))
