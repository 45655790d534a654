-- Whether a scenario is in a list of scenarios.
-- Assumes nothing.
use Rattle.std.specs.Prelude.{Bool, true, false, ◌||◌, List, [], ◌∷◌}
use Rattle.walk.specs.Scenario.{Scenario}

-- whether two scenarios agree on every event
abbrev pub same : Scenario → Scenario → Bool
same [] [] = true
same [] (b ∷ r) = false
same (a ∷ s) [] = false
same (true ∷ s) (true ∷ r) = same s r
same (true ∷ s) (false ∷ r) = false
same (false ∷ s) (true ∷ r) = false
same (false ∷ s) (false ∷ r) = same s r

-- whether the scenario s is one of the list
abbrev pub among : Scenario → List Scenario → Bool
among s [] = false
among s (r ∷ list) = same s r || among s list
