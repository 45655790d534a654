-- What the host's calls answer and leave in the lent buffer: document 01, "Further readings of a plan": "The host program is in C".
-- Assumes nothing.
use Rattle.std.specs.Prelude.{◌≡◌, refl, List, [], ◌∷◌, ◌++◌, ℕ, take, drop}
use Rattle.mass.specs.Refusal.{first}
use Rattle.plan.specs.Layout.{little, value}
use Rattle.refusals.specs.Tests.{room_test}
use Rattle.plan.specs.File.{refusal, nodes_in}
use Rattle.pairs.specs.Pairs.{pair_test}

-- the bounds of one pair of a file: 1 to 11 of the file, then 12 where the buffer has fewer than 16 bytes, then 13
unfoldable pub host_refusal : List ℕ → ℕ → ℕ → ℕ → ℕ
host_refusal b room v w = first (refusal b ∷ room_test room 16 ∷ pair_test (nodes_in b) v w ∷ [])

-- two numbers in sixteen bytes: "eight little-endian bytes each, lower first"
unfoldable pub sixteen : ℕ → ℕ → List ℕ
sixteen lower upper = little 8 lower ++ little 8 upper

-- the two numbers that stand in the first sixteen bytes
abbrev pub lower_in : List ℕ → ℕ
lower_in bytes = value (take 8 bytes)

abbrev pub upper_in : List ℕ → ℕ
upper_in bytes = value (take 8 (drop 8 bytes))

-- an example: 4 and 258
example-sixteen : sixteen 4 258 ≡ 4 ∷ 0 ∷ 0 ∷ 0 ∷ 0 ∷ 0 ∷ 0 ∷ 0 ∷ 2 ∷ 1 ∷ 0 ∷ 0 ∷ 0 ∷ 0 ∷ 0 ∷ 0 ∷ []
unfolding sixteen little
example-sixteen = refl
