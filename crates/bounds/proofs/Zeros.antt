-- The entries of the pairs before the walk.
-- Assumes nothing.
use mathlib.Core.Path.{◌≡◌}
use Prim.Native.Nat.{ℕ, ◌<◌}
use native.Mathlib.Decide.{dec_lt}
use native.Mathlib.Omega.{arith}
use lib.ListN.{get_or, replicate, get_or-replicate, get_or-eq_default, length-replicate}
use Rattle.bounds.specs.Summed.{Cleared}

-- an array of zeros
pub zeros-at : (n i : ℕ) → get_or (replicate {A = ℕ} n 0) i 0 ≡ 0
zeros-at n i = go (dec_lt i n)
  where
    go : Dec (i < n) → get_or (replicate {A = ℕ} n 0) i 0 ≡ 0
    go (yes h) = get_or-replicate {A = ℕ} n i 0 0 h
    go (no m) = get_or-eq_default (replicate {A = ℕ} n 0) 0 (omega (arith, length-replicate {A = ℕ} n 0))

pub cleared : Cleared (replicate {A = ℕ} 2016 0)
cleared = record { sized = length-replicate {A = ℕ} 2016 0; zeros = zeros-at 2016 }
