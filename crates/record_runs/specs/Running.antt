-- What the run on a plan file answers: document 01, sections "Bounds of a pair" and "Refused".
-- Assumes nothing.
use Rattle.std.specs.Prelude.{List, [], ◌∷◌, ℕ}
use Rattle.mass.specs.Refusal.{first}
use Rattle.refusals.specs.Tests.{room_test}
use Rattle.plan.specs.File.{refusal, nodes_in}
use Rattle.pairs.specs.Pairs.{pair_count}

-- the number with which the file is refused, then 12 where a list of bounds is shorter than the pairs
unfoldable pub file_number : List ℕ → ℕ → ℕ → ℕ
file_number b lower_room upper_room =
    first (refusal b ∷ room_test lower_room (pair_count (nodes_in b)) ∷ room_test upper_room (pair_count (nodes_in b)) ∷ [])
