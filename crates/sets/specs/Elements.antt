-- What going over the elements of a set gives.
-- Assumes nothing.
use Rattle.std.specs.Prelude.{◌≡◌, true, false, not, ◌&&◌, ℕ, ◌<◌, eqb}
use Rattle.sets.specs.Sets.{bit}

-- i is the lowest element of a set, and `others` is the set without it
pub record LowestTaken (set i others : ℕ) : Type 0 where
  pub within : i < 64
  pub found : bit set i ≡ true
  pub first : (j : ℕ) → j < i → bit set j ≡ false
  pub rest : (j : ℕ) → bit others j ≡ (bit set j && not (eqb j i))
  pub smaller : others < set
