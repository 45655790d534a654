-- `readings::yearly::seconds_of` meets its contract: 1971 and PARTS are 31,536,000 and 10^18 over 16,000. Assumes nothing.
use mathlib.Core.Path.{◌≡◌, ap₂}
use Prim.Native.Nat.{ℕ}
use native.Mathlib.Omega.{arith}
use Rattle.readings.specs.Downtime.{lower_seconds, upper_seconds}
use Rattle.readings.proofs.yearly.seconds_of.Goals as goal

pub seconds_with-requires : goal.seconds_with-requires
seconds_with-requires c = (c.requires.0, omega arith)

pub seconds_with-requires-2 : goal.seconds_with-requires-2
seconds_with-requires-2 c = (c.requires.1, omega arith)

pub returns : goal.returns
returns c =
    let args = c.args in
    let down : c.seconds_with.result ≡ lower_seconds args.lower = omega (arith, c.seconds_with.ensures) in
    let up : c.seconds_with-2.result ≡ upper_seconds args.upper = omega (arith, c.seconds_with-2.ensures) in
    ap₂ (λ (l u : ℕ). record { lower = l; upper = u }) down up
