-- `bounds::one_pair::bounds_at` meets its contract. Assumes nothing.
use mathlib.Core.Path.{ap}
use Prim.Native.Nat.{ℕ, ◌+◌, ◌-◌}
use native.Mathlib.Omega.{arith}
use lib.ListN.{get_or}
use Rattle.mass.specs.Split.{whole}
use Rattle.bounds.proofs.one_pair.bounds_at.Goals as goal

pub place_of-requires : goal.place_of-requires
place_of-requires c = (c.requires.bounds_fit.few, c.requires.v_lt_w.0, c.requires.v_lt_w.1)

pub overflow_add-result : goal.overflow_add-result
overflow_add-result c = omega (arith, c.requires.bounds_fit.below c.place_of.result)

pub returns : goal.returns
returns c =
    let e = c.place_of.ensures.0 in
    (ap (λ (i : ℕ). get_or c.args.sums.now i 0) e, ap (λ (i : ℕ). (whole - c.args.mass) + get_or c.args.sums.now i 0) e)
