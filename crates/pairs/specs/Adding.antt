-- Adding a mass to the entries of the pairs that a topology disconnects: what the steps of the run ask and promise. The entries of the pairs
-- of n nodes stand in order in a list, in the block that begins at `base`; there are at most 16 blocks of at most 2,016 entries.
-- Assumes nothing.
use Rattle.std.specs.Prelude.{◌≡◌, true, ◌&&◌, List, ℕ, ◌+◌, ◌-◌, ◌*◌, ◌^◌, ◌<◌, ◌≤◌, leb, length, get_or}
use Rattle.mass.specs.Split.{whole}
use Rattle.sets.specs.Sets.{bit, digit}
use Rattle.topology.specs.RowPaths.{RowPath, Joining}
use Rattle.pairs.specs.Pairs.{place, pair_count}

-- a row: the element w of a set stands for the entry start + (w − skip)
pub record AddingRow (start skip set mass : ℕ) (list : List ℕ) : Type 0 where
  pub low : start ≤ 32256
  pub above : (w : ℕ) → bit set w ≡ true → skip ≤ w
  pub within : (w : ℕ) → bit set w ≡ true → start + (w - skip) < length list
  pub fits : (w : ℕ) → bit set w ≡ true → get_or list (start + (w - skip)) 0 + mass < 2 ^ 64

pub record AddedRow (start skip set mass : ℕ) (list list' : List ℕ) : Type 0 where
  pub sized : length list' ≡ length list
  pub each : (i : ℕ) → get_or list' i 0 ≡ get_or list i 0 + mass * digit (leb start i && bit set (skip + (i - start)))

-- the rows of several nodes: each node of a set is paired with the nodes after it of another; entries outside the block are untouched
pub record AddingRows (base n set others mass : ℕ) (list : List ℕ) : Type 0 where
  pub few : n ≤ 64
  pub low : base ≤ 30240
  pub room : pair_count n + base ≤ length list
  pub nodes : (v : ℕ) → bit set v ≡ true → v < n
  pub within : (w : ℕ) → bit others w ≡ true → w < n
  pub fits : (v w : ℕ) → v < w → w < n → bit set v ≡ true → get_or list (place n v w + base) 0 + mass ≤ whole

pub record AddedRows (base n set others mass : ℕ) (list list' : List ℕ) : Type 0 where
  pub sized : length list' ≡ length list
  pub each : (v w : ℕ) → v < w → w < n
      → get_or list' (place n v w + base) 0 ≡ get_or list (place n v w + base) 0 + mass * digit (bit set v && bit others w)
  pub before : (i : ℕ) → i < base → get_or list' i 0 ≡ get_or list i 0
  pub past : (i : ℕ) → pair_count n + base ≤ i → get_or list' i 0 ≡ get_or list i 0

-- v is one of the nodes that work, and a path by the rows of neighbours joins it and w
abbrev pub JoinedByRows : ℕ → List ℕ → ℕ → ℕ → Type 0
JoinedByRows nodes rows v w = (bit nodes v ≡ true) × RowPath rows v w

-- all pairs that the rows of neighbours do not join; entries outside the block are untouched
pub record AddingCut (base n nodes mass : ℕ) (rows list : List ℕ) : Type 0 where
  pub few : n ≤ 64
  pub low : base ≤ 30240
  pub room : pair_count n + base ≤ length list
  pub fits : (v w : ℕ) → v < w → w < n → get_or list (place n v w + base) 0 + mass ≤ whole
  pub nodes-within : (v : ℕ) → bit nodes v ≡ true → v < n
  pub joining : Joining nodes rows

pub record AddedCut (base n nodes mass : ℕ) (rows list list' : List ℕ) : Type 0 where
  pub sized : length list' ≡ length list
  pub joined : (v w : ℕ) → v < w → w < n → JoinedByRows nodes rows v w
      → get_or list' (place n v w + base) 0 ≡ get_or list (place n v w + base) 0
  pub apart : (v w : ℕ) → v < w → w < n → (JoinedByRows nodes rows v w → ⊥)
      → get_or list' (place n v w + base) 0 ≡ get_or list (place n v w + base) 0 + mass
  pub before : (i : ℕ) → i < base → get_or list' i 0 ≡ get_or list i 0
  pub past : (i : ℕ) → pair_count n + base ≤ i → get_or list' i 0 ≡ get_or list i 0
