-- A mass in two parts, high × 10^9 + low: what an event leaves of it.
-- Assumes nothing.
use mathlib.Core.Path.{◌≡◌, ap}
use Prim.Native.Nat.{ℕ, ◌+◌, ◌-◌, ◌*◌, ◌/◌, ◌%◌, ◌≤◌, ◌<◌}
use native.Mathlib.Nat.{mul-le-mul}
use native.Mathlib.Omega.{arith}
use Rattle.mass.specs.Split.{certain, whole, working}
use Rattle.mass.proofs.Theorems.{works-le}
use Rattle.walk.specs.Steps.{TwoParts}
use Rattle.walk.specs.declared.Parted.{Parted}

-- the share of r in 10^9 of the whole is that of each part
sum_of : (units high low r : ℕ) → units ≡ high * certain + low → high * r + low * r / certain ≡ units * r / certain
sum_of units high low r e = omega (arith, ap (λ (x : ℕ). x * r) e)

module _ (m : Parted) (q : ℕ) (t : TwoParts m.units m) (fits : q ≤ certain) where
  rest_le : certain - q ≤ certain
  rest_le = omega arith

  first-le : m.high * (certain - q) ≤ whole
  first-le = omega (arith, mul-le-mul {n₁ = m.high} {n₂ = m.high} (omega arith) rest_le, t.parts, t.light)

  second-le : m.low * (certain - q) ≤ 16000000000000000000
  second-le = omega (arith, mul-le-mul {n₁ = m.low} {n₂ = 16 * certain} (omega (arith, t.small)) rest_le)

  -- together they are what the event leaves
  worked : m.high * (certain - q) + m.low * (certain - q) / certain ≡ working m.units q
  worked = sum_of m.units m.high m.low (certain - q) t.parts

  light : m.high * (certain - q) + m.low * (certain - q) / certain ≤ whole
  light = omega (arith, worked, works-le m.units q fits, t.light)

  pub kept : m.high * (certain - q) % certain + m.low * (certain - q) / certain < 16000000000
      → TwoParts (working m.units q)
      (record {
        units = m.high * (certain - q) + m.low * (certain - q) / certain;
        high = m.high * (certain - q) / certain;
        low = m.high * (certain - q) % certain + m.low * (certain - q) / certain;
      })
  kept h = record { units = worked; parts = omega arith; small = omega arith; light = light }

  pub carried : TwoParts (working m.units q)
      (record {
        units = m.high * (certain - q) + m.low * (certain - q) / certain;
        high = m.high * (certain - q) / certain + (m.high * (certain - q) % certain + m.low * (certain - q) / certain) / certain;
        low = (m.high * (certain - q) % certain + m.low * (certain - q) / certain) % certain;
      })
  carried = record { units = worked; parts = omega arith; small = omega arith; light = light }
