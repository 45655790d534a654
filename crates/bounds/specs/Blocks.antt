-- A scenario's mass added to blocks of entries of the pairs: block b begins at b times the number of pairs. A run has one block, the first;
-- several thresholds have one each (document 02, request U8).
-- Assumes nothing.
use Rattle.std.specs.Prelude.{◌≡◌, Bool, true, List, ℕ, ◌+◌, ◌*◌, ◌<◌, ◌≤◌, length, get_or}
use Rattle.mass.specs.Split.{whole}
use Rattle.sets.specs.Sets.{bit, digit}
use Rattle.pairs.specs.Pairs.{place, pair_count}

-- the blocks of a set are at most 16, stand in the list, and have room for a mass
pub record BlocksFit (n blocks mass : ℕ) (lower : List ℕ) : Type 0 where
  pub few : (b : ℕ) → bit blocks b ≡ true → b < 16
  pub room : (b : ℕ) → bit blocks b ≡ true → pair_count n + pair_count n * b ≤ length lower
  pub fits : (b : ℕ) → bit blocks b ≡ true → (v w : ℕ) → v < w → w < n → get_or lower (place n v w + pair_count n * b) 0 + mass ≤ whole

-- a mass is added, in each block of a set, to the entries of the pairs of n nodes that are cut; the other blocks, and what is past the last
-- block of the set, are untouched
pub record BlocksAdded (n : ℕ) (cut : ℕ → ℕ → Bool) (blocks mass : ℕ) (lower lower' : List ℕ) : Type 0 where
  pub sized : length lower' ≡ length lower
  pub each : (b v w : ℕ) → v < w → w < n
      → get_or lower' (place n v w + pair_count n * b) 0 ≡ get_or lower (place n v w + pair_count n * b) 0 + mass * digit (bit blocks b) * digit (cut v w)
  pub past : (k : ℕ) → ((b : ℕ) → bit blocks b ≡ true → b < k) → (j : ℕ) → pair_count n * k ≤ j → get_or lower' j 0 ≡ get_or lower j 0
