-- The entries of the pairs: those of a plan, and those before its walk.
-- Assumes nothing.
use Rattle.std.specs.Prelude.{◌≡◌, List, ℕ, ◌<◌, ◌≤◌, length, get_or}
use Rattle.plan.specs.Plan.{Plan}
use Rattle.network.specs.Outage.{Outage}
use Rattle.walk.specs.Walk.{mass_examined}
use Rattle.pairs.specs.Pairs.{place}
use Rattle.bounds.specs.Bounds.{lower_of}

-- the entries of all pairs hold the lower bounds of a plan, and no entry is above the mass examined
pub record Summed (out : Outage) (p : Plan) (n : ℕ) (lower : List ℕ) : Type 0 where
  pub sized : length lower ≡ 2016
  pub below : (i : ℕ) → get_or lower i 0 ≤ mass_examined p
  pub each : (v w : ℕ) → v < w → w < n → get_or lower (place n v w) 0 ≡ lower_of out p v w

-- 2016 zeros
pub record Cleared (lower : List ℕ) : Type 0 where
  pub sized : length lower ≡ 2016
  pub zeros : (i : ℕ) → get_or lower i 0 ≡ 0
