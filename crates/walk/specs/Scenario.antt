-- A scenario: document 01, section "Scenarios".
-- Assumes nothing.
use Rattle.std.specs.Prelude.{◌≡◌, refl, Bool, true, false, List, [], ◌∷◌, ℕ, zero, suc, ◌+◌, ◌*◌, ◌/◌, ◌%◌, eqb}
use Rattle.mass.specs.Split.{failing, working}
use Rattle.sets.specs.Sets.{digit}
use Rattle.plan.specs.Plan.{Event}

-- "A scenario says of each event "fails" or "works"": entry i is true where event i fails
abbrev pub Scenario : Type 0
Scenario = List Bool

-- the set of failing events, as a number: bit i, of value 2^i, is set where event i fails
abbrev pub failing_set : Scenario → ℕ
failing_set [] = 0
failing_set (b ∷ s) = digit b + 2 * failing_set s

-- the scenario of n events whose set of failing events is the number k
abbrev pub scenario_of : ℕ → ℕ → Scenario
scenario_of zero k = []
scenario_of (suc n) k = eqb (k % 2) 1 ∷ scenario_of n (k / 2)

-- the part of the mass m that one event leaves: under "fails" and under "works"
abbrev pub part : Bool → ℕ → ℕ → ℕ
part true m q = failing m q
part false m q = working m q

-- the final mass of a scenario: the mass m split at event 0, 1, up to the last
abbrev pub final_mass : ℕ → List Event → Scenario → ℕ
final_mass m [] s = m
final_mass m (e ∷ events) [] = m
final_mass m (e ∷ events) (b ∷ s) = final_mass (part b m e.probability) events s

-- example: of three events the first and the last fail
example-failing : failing_set (true ∷ false ∷ true ∷ []) ≡ 5
example-failing = refl
