-- Computed examples: the bounds of a pair, D and R at given numbers.
-- Assumes nothing.
use mathlib.Core.Path.{◌≡◌, refl}
use mathlib.Core.Bool.{Bool, false}
use mathlib.Core.List.{[], ◌∷◌}
use Prim.Native.Nat.{ℕ}
use lib.ListN.{get_or}
use Rattle.plan.specs.Plan.{Plan}
use Rattle.walk.specs.Scenario.{Scenario}
use Rattle.walk.specs.Ends.{ends}
use Rattle.sums.specs.Exact.{exact_sum, exact_cut, exact_missed}
use Rattle.sums.specs.Bounds.{lower, upper}

-- one event of probability 1/10 that cuts the pair, with room for both ends of the walk and for one
abbrev example : ℕ → Plan
example cap =
    record { nodes = 2; links = []; events = record { probability = 100000000; nodes = 0; links = 1 } ∷ []; threshold = 1; cap = cap }

abbrev first_fails : Scenario → Bool
first_fails s = get_or s 0 false

example-both : (lower (example 2) first_fails ≡ 100000000000000000) × (upper (example 2) first_fails ≡ 100000000000000000)
unfolding ends
example-both = (refl, refl)

example-one : (lower (example 1) first_fails ≡ 0) × (upper (example 1) first_fails ≡ 100000000000000000)
unfolding ends
example-one = (refl, refl)

example-exact : (exact_cut (example 2) first_fails ≡ 100000000) × (exact_missed (example 2) ≡ 0) × (exact_missed (example 1) ≡ 100000000)
unfolding ends exact_sum
example-exact = (refl, refl, refl)
