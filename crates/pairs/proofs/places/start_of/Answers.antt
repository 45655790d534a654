-- `pairs::places::start_of` meets its contract: half of a product. Assumes nothing.
use Prim.Native.Nat.{◌*◌, ◌-◌}
use native.Mathlib.Omega.{arith}
use Rattle.pairs.proofs.PairLaws.{start-closed}
use Rattle.pairs.proofs.places.start_of.Goals as goal

pub returns : goal.returns
returns c = omega (arith, start-closed c.args.n c.args.v (2 * c.args.n - c.args.v) c.requires.1 (omega (arith, c.requires)))
