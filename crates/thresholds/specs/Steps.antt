-- What the steps of the call for several thresholds ask and promise.
-- Assumes nothing.
use Rattle.std.specs.Prelude.{◌≡◌, List, ℕ, ◌+◌, ◌-◌, ◌*◌, ◌<◌, ◌≤◌, length, get_or}
use Rattle.mass.specs.Split.{whole}
use Rattle.pairs.specs.Pairs.{pair_count}
use Rattle.thresholds_sums.specs.Walked.{Plans, plan_for, numbers_at, HoldsAnswers, Places}
use Rattle.thresholds_sums.specs.declared.PlaceNumbers.{PlaceNumbers}
use Rattle.thresholds.specs.Thresholds.{thresholds_test}
use Rattle.thresholds.specs.declared.CommonHeader.{CommonHeader}

-- no test after those of the lists refuses: the thresholds pass, and the two lists of bounds have room for all blocks
pub record Accepted (h : CommonHeader) (list : List ℕ) (lower_room upper_room : ℕ) : Type 0 where
  pub tested : thresholds_test list ≡ 0
  pub lower-room : pair_count h.nodes * length list ≤ lower_room
  pub upper-room : pair_count h.nodes * length list ≤ upper_room

-- the walk for a list of thresholds has ended: each has its plan's answers at its place and in its block, the places past the last hold 0,
-- and the entries past the last block are untouched
pub record BlocksWalked (ps : Plans) (n : PlaceNumbers) (lower lower' : List ℕ) : Type 0 where
  pub arrays : Places n
  pub each : (i : ℕ) → i < length ps.list → HoldsAnswers (plan_for ps i) (numbers_at n i) (pair_count ps.header.nodes * i) lower'
  pub none : (i : ℕ) → length ps.list ≤ i → (get_or n.rooms i 0 ≡ 0) × (get_or n.counts i 0 ≡ 0) × (get_or n.masses i 0 ≡ 0)
  pub past : (j : ℕ) → pair_count ps.header.nodes * length ps.list ≤ j → get_or lower' j 0 ≡ get_or lower j 0
  pub sized : length lower' ≡ length lower

-- what raising `count` blocks of `pairs` entries asks
pub record Raising (pairs count : ℕ) (masses lower upper : List ℕ) : Type 0 where
  pub few : count ≤ 16
  pub small : pairs ≤ 2016
  pub lower-room : pairs * count ≤ length lower
  pub upper-room : pairs * count ≤ length upper
  pub light : (i : ℕ) → i < count → get_or masses i 0 ≤ whole
  pub below : (i j : ℕ) → i < count → j < pairs → get_or lower (j + pairs * i) 0 ≤ whole

-- each entry of block i of `lower`, with what is not of mass i added, stands at the same place of `upper`, and all else is untouched
pub record Raised (pairs count : ℕ) (masses lower upper upper' : List ℕ) : Type 0 where
  pub sized : length upper' ≡ length upper
  pub each : (i j : ℕ) → i < count → j < pairs → get_or upper' (j + pairs * i) 0 ≡ (whole - get_or masses i 0) + get_or lower (j + pairs * i) 0
  pub past : (j : ℕ) → pairs * count ≤ j → get_or upper' j 0 ≡ get_or upper j 0
