-- `refusals::reaches` meets its contract: no set of 64 bits reaches 64. Assumes nothing.
use mathlib.Core.Path.{sym}
use native.Mathlib.Omega.{arith}
use borrow.Author.Tests.{lt-leb}
use Rattle.refusals.proofs.ReachLaws.{reach-shift}
use Rattle.refusals.proofs.reaches.Goals as goal

pub returns-then-count-eq64 : goal.returns-then-count-eq64
returns-then-count-eq64 c = rw c.if-count-eq64.true (sym (lt-leb _ _ c.ranges.set.fits))

pub overflow_shr-result : goal.overflow_shr-result
overflow_shr-result c = omega (arith, c.if-count-eq64.false)

pub returns : goal.returns
returns c = reach-shift c.args.count c.args.set
