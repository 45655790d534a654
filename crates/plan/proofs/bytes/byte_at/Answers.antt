-- `plan::bytes::byte_at` meets its contract: an element of a slice of bytes is below 256. Assumes nothing.
use mathlib.Core.Path.{refl}
use native.Mathlib.Omega.{arith}
use Rattle.plan.proofs.bytes.byte_at.Goals as goal

pub overflow_cast-result : goal.overflow_cast-result
overflow_cast-result c = omega (arith, c.type_inv.s c.args.at)

pub returns : goal.returns
returns c = record { is = refl; below = omega (arith, c.type_inv.s c.args.at) }
