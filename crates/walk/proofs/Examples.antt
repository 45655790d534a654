-- Computed examples: the ends of a walk, complete, E and the count at given numbers.
-- Assumes nothing.
use mathlib.Core.Path.{◌≡◌, refl}
use mathlib.Core.Bool.{true, false}
use mathlib.Core.List.{[], ◌∷◌}
use Prim.Native.Nat.{ℕ}
use Rattle.plan.specs.Plan.{Plan}
use Rattle.walk.specs.Ends.{dropped, relevant, ends}
use Rattle.walk.specs.Walk.{plan_ends, complete, mass_examined, count}

-- one event of probability 1/10. At a threshold of 1/10 both scenarios are relevant; one unit higher only the first is, and
-- the other is dropped; with room for one end the walk is not complete.
abbrev example : ℕ → ℕ → Plan
example t cap =
    record { nodes = 2; links = []; events = record { probability = 100000000; nodes = 0; links = 1 } ∷ []; threshold = t; cap = cap }

example-both : plan_ends (example 100000000000000000 100)
    ≡ relevant (false ∷ []) 900000000000000000 ∷ relevant (true ∷ []) 100000000000000000 ∷ []
unfolding ends
example-both = refl

example-dropped : plan_ends (example 100000000000000001 100) ≡ relevant (false ∷ []) 900000000000000000 ∷ dropped ∷ []
unfolding ends
example-dropped = refl

example-cap : (complete (example 1 2) ≡ 1) × (complete (example 1 1) ≡ 0)
    × (mass_examined (example 1 1) ≡ 900000000000000000) × (count (example 1 1) ≡ 1)
unfolding ends
example-cap = (refl, refl, refl, refl)
