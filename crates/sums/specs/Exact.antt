-- Exact probabilities and sums of them: document 01, sections "Units and the splitting of mass" and "Bounds of a pair".
-- Assumes nothing.
use Rattle.std.specs.Prelude.{Bool, true, false, not, List, [], ◌∷◌, ◌++◌, map, ℕ, zero, suc, ◌+◌, ◌-◌, ◌*◌, ◌^◌, length}
use Rattle.mass.specs.Split.{certain}
use Rattle.plan.specs.Plan.{Plan, Event}
use Rattle.walk.specs.Scenario.{Scenario}
use Rattle.sets.specs.Sets.{digit}
use Rattle.walk.specs.Walk.{is_examined}

-- all sets of n events, each as the scenario in which exactly its events fail
abbrev pub all_sets : ℕ → List Scenario
all_sets zero = [] ∷ []
all_sets (suc n) = map (λ s. false ∷ s) (all_sets n) ++ map (λ s. true ∷ s) (all_sets n)

-- the factor of one event in units of 10^-9: q where it fails, 10^9 − q where it works
abbrev pub factor : Bool → ℕ → ℕ
factor true q = q
factor false q = certain - q

-- the exact probability of a set in units of 10^-9n: the product over the n events (1 if n = 0); a list that is too short is no set of
-- these events
abbrev pub exact : List Event → Scenario → ℕ
exact [] s = 1
exact (e ∷ events) [] = 0
exact (e ∷ events) (b ∷ s) = factor b e.probability * exact events s

-- the sum of f over a list of scenarios
abbrev pub sum_over : (Scenario → ℕ) → List Scenario → ℕ
sum_over f [] = 0
sum_over f (s ∷ list) = f s + sum_over f list

-- the exact sum of a weight: over all 2^n sets, exact probability × weight
unfoldable pub exact_sum : List Event → (Scenario → ℕ) → ℕ
exact_sum events w = sum_over (λ s. exact events s * w s) (all_sets (length events))

-- 10^(9n), the number of units in 1
unfoldable pub scale : ℕ → ℕ
scale n = 10 ^ (9 * n)

-- D: the sum of the exact probabilities of all sets for which `cut` holds ("whose effective topology disconnects the pair")
abbrev pub exact_cut : Plan → (Scenario → Bool) → ℕ
exact_cut p cut = exact_sum p.events (λ s. digit (cut s))

-- R: the sum of those of all sets whose scenario is not examined
abbrev pub exact_missed : Plan → ℕ
exact_missed p = exact_sum p.events (λ s. digit (not (is_examined p s)))
