-- The order of the walk: document 01, section "Scenarios": each event is decided in turn, "works" before "fails".
-- Assumes nothing.
use Rattle.std.specs.Prelude.{◌≡◌, refl, Bool, true, false}
use mathlib.Core.List.{List, [], ◌∷◌, Pairwise}
use Rattle.walk.specs.Scenario.{Scenario}

-- whether a scenario comes before another in the walk: at the first event on which they differ it says "works", the other "fails"
abbrev pub earlier : Scenario → Scenario → Bool
earlier [] r = false
earlier (a ∷ s) [] = false
earlier (false ∷ s) (true ∷ r) = true
earlier (true ∷ s) (false ∷ r) = false
earlier (true ∷ s) (true ∷ r) = earlier s r
earlier (false ∷ s) (false ∷ r) = earlier s r

-- each scenario of a list comes before all that stand after it
abbrev pub Ordered : List Scenario → Type 0
Ordered = Pairwise (λ (s r : Scenario). earlier s r ≡ true)

-- example: the last event alone comes before the first event alone, and nothing before itself
example-earlier : (earlier (false ∷ true ∷ []) (true ∷ false ∷ []) ≡ true) × (earlier (true ∷ false ∷ []) (true ∷ false ∷ []) ≡ false)
example-earlier = (refl, refl)
