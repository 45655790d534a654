-- Paths by the rows of an array of sets: what reach and the components promise of the rows that they are given.
-- Assumes nothing.
use Rattle.std.specs.Prelude.{◌≡◌, true, List, ◌↔◌, ℕ, get_or}
use Rattle.sets.specs.Sets.{bit}
use Rattle.topology.specs.Paths.{Chain}
use Rattle.topology.specs.Rounds.{reach_by, itself}
use Rattle.topology.specs.declared.Reach.{Reach}

-- a step: w is in the row of v
abbrev pub RowStep : List ℕ → ℕ → ℕ → Type 0
RowStep rows v w = bit (get_or rows v 0) w ≡ true

-- a path of such steps
abbrev pub RowPath : List ℕ → ℕ → ℕ → Type 0
RowPath rows = Chain (RowStep rows)

-- w is in the row of an element of the set
abbrev pub InRows : List ℕ → ℕ → ℕ → Type 0
InRows rows set w = (u : ℕ) × (bit set u ≡ true) × RowStep rows u w

-- the set has w exactly where v is one of the nodes and a path joins v and w
abbrev pub Reached : ℕ → List ℕ → ℕ → ℕ → Type 0
Reached nodes rows v set = (w : ℕ) → (bit set w ≡ true) ↔ ((bit nodes v ≡ true) × RowPath rows v w)

-- the same by rounds: w is a neighbour of u where it is in the row of u
unfoldable pub reach_by_rows : ℕ → List ℕ → ℕ → Reach
reach_by_rows nodes rows v = reach_by 64 (itself (bit nodes v) v) (λ u w. bit (get_or rows u 0) w)

-- the rows join both ways, and only nodes of the set
pub record Joining (nodes : ℕ) (rows : List ℕ) : Type 0 where
  pub both_ways : (v w : ℕ) → RowStep rows v w → RowStep rows w v
  pub within : (v w : ℕ) → RowStep rows v w → bit nodes w ≡ true
