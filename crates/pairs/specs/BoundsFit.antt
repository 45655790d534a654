-- Laying the bounds of all pairs down: what it asks.
-- Assumes nothing.
use Rattle.std.specs.Prelude.{◌≡◌, List, ℕ, ◌≤◌, length, get_or}
use Rattle.mass.specs.Split.{whole}
use Rattle.pairs.specs.Pairs.{pair_count}

-- what giving the bounds out asks: sums of at most one whole, and room for all pairs
pub record BoundsFit (n mass : ℕ) (sums lower upper : List ℕ) : Type 0 where
  pub few : n ≤ 64
  pub light : mass ≤ whole
  pub sized : length sums ≡ 2016
  pub below : (i : ℕ) → get_or sums i 0 ≤ whole
  pub lower-room : pair_count n ≤ length lower
  pub upper-room : pair_count n ≤ length upper
