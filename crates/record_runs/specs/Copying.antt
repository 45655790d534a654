-- What a copy of a plan file answers: the number with which the file is refused, then 12 where the output is too short.
-- Assumes nothing.
use Rattle.std.specs.Prelude.{List, [], ◌∷◌, ℕ, length}
use Rattle.mass.specs.Refusal.{first}
use Rattle.refusals.specs.Tests.{room_test}
use Rattle.plan.specs.File.{refusal}

unfoldable pub copy_number : List ℕ → ℕ → ℕ
copy_number b room = first (refusal b ∷ room_test room (length b) ∷ [])
