-- `mass::Mass::share` meets its contract: each product is of a number at most 10^9 with q, and the rounded product is put together from
-- the quotient's product and the remainder's. Assumes nothing.
use mathlib.Core.Path.{ap}
use Prim.Native.Nat.{ℕ, ◌*◌, ◌/◌, ◌%◌}
use native.Mathlib.Omega.{arith}
use native.Mathlib.Nat.{mul-le-mul_left, div-add-mod'}
use Rattle.mass.specs.Split.{certain}
use Rattle.mass.proofs.Mass.share.Goals as goal

pub overflow_mul-result : goal.overflow_mul-result
overflow_mul-result c = omega (arith, mul-le-mul_left (c.args.self.units / certain) c.requires.1)

pub overflow_mul-result-2 : goal.overflow_mul-result-2
overflow_mul-result-2 c = omega (arith, mul-le-mul_left (c.args.self.units % certain) c.requires.1)

pub overflow_add-result : goal.overflow_add-result
overflow_add-result c =
    omega (
      arith,
      mul-le-mul_left (c.args.self.units / certain) c.requires.1,
      mul-le-mul_left (c.args.self.units % certain) c.requires.1,
    )

pub returns : goal.returns
returns c = omega (arith, ap (λ (x : ℕ). x * c.args.q) (div-add-mod' c.args.self.units certain))
