-- Laws of the downtime of a pair's bounds: from bounds in units of mass to bounds in seconds, and that they are never refused.
-- Assumes nothing.
use mathlib.Core.Path.{◌≡◌, sym, ap, ap₂, ◌∙◌}
use Prim.Native.Nat.{ℕ, ◌*◌, ◌≤◌}
use native.Mathlib.Nat.{mul-le-mul_right}
use native.Mathlib.Omega.{arith}
use borrow.Author.Tests.{le-ltb}
use Rattle.mass.specs.Refusal.{refuse, first}
use Rattle.mass.specs.Split.{whole, mass_test}
use Rattle.mass.proofs.RefusalLaws.{first-skip}
use Rattle.plan.specs.Plan.{Plan}
use Rattle.plan.specs.LentLists.{plan_refusal}
use Rattle.network.specs.Outage.{Outage}
use Rattle.walk.proofs.Valid.{plan-probable}
use Rattle.sums.proofs.BoundsLaws.{lower-upper, upper-le}
use Rattle.bounds.specs.Bounds.{cuts, lower_of, upper_of}
use Rattle.readings.specs.Downtime.{year, downtime_refusal, NoBounds}

-- a bound m of D (d), S for 10^(9n), and its seconds s
pub below_step : (m s S d : ℕ) → s * whole ≤ m * year → m * S ≤ d * whole → s * S ≤ d * year
below_step m s S d h e = omega (arith, mul-le-mul_right S h)

pub above_step : (m s S d : ℕ) → m * year ≤ s * whole → d * whole ≤ m * S → d * year ≤ s * S
above_step m s S d h e = omega (arith, mul-le-mul_right S h)

-- a mass of at most one whole is not refused
fits : (m : ℕ) → m ≤ whole → mass_test m ≡ 0
fits m h = ap (λ b. refuse b 16) (le-ltb whole m h)

none-refused : (lower upper : ℕ) → mass_test lower ≡ 0 → mass_test upper ≡ 0 → downtime_refusal lower upper ≡ 0
unfolding first
none-refused lower upper e f = rw (first-skip (mass_test lower) _ e, first-skip (mass_test upper) _ f)

-- nor are the bounds of a pair
pub bounds-fit : (out : Outage) (p : Plan) → plan_refusal p ≡ 0 → (v w : ℕ) → downtime_refusal (lower_of out p v w) (upper_of out p v w) ≡ 0
bounds-fit out p valid v w =
    let probable = plan-probable p valid in
    let least : lower_of out p v w ≤ upper_of out p v w = lower-upper p probable (cuts out p v w) in
    let most : upper_of out p v w ≤ whole = upper-le p probable (cuts out p v w) in
    none-refused (lower_of out p v w) (upper_of out p v w) (fits (lower_of out p v w) (omega arith)) (fits (upper_of out p v w) most)

-- so two masses that are refused are the bounds of no pair
pub none-bounds : (lower upper : ℕ) → (downtime_refusal lower upper ≡ 0 → ⊥) → NoBounds lower upper
none-bounds lower upper some out p valid v w is-lower is-upper = some (ap₂ downtime_refusal (sym is-lower) (sym is-upper) ∙ bounds-fit out p valid v w)
