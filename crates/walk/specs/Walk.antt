-- The walk of a plan: document 01, section "Scenarios".
-- Assumes nothing.
use Rattle.std.specs.Prelude.{Bool, List, ℕ, leb, length, take}
use Rattle.mass.specs.Split.{whole}
use Rattle.plan.specs.Plan.{Plan}
use Rattle.walk.specs.Scenario.{Scenario}
use Rattle.sets.specs.Sets.{digit}
use Rattle.walk.specs.Ends.{End, ends, sum_ends, scenarios}
use Rattle.walk.specs.Member.{among}

-- the ends of the walk of a plan, in order: the mass starts at one whole
abbrev pub plan_ends : Plan → List End
plan_ends p = ends p.threshold whole p.events

-- the first cap ends
abbrev pub first_ends : Plan → List End
first_ends p = take p.cap (plan_ends p)

-- "Examined are the relevant scenarios among the first cap ends."
abbrev pub examined : Plan → List Scenario
examined p = scenarios (first_ends p)

-- whether a scenario is examined
abbrev pub is_examined : Plan → Scenario → Bool
is_examined p s = among s (examined p)

-- "Complete" is 1 if there are no more ends than cap, else 0
abbrev pub complete : Plan → ℕ
complete p = digit (leb (length (plan_ends p)) p.cap)

-- E, the sum of the examined masses
abbrev pub mass_examined : Plan → ℕ
mass_examined p = sum_ends (λ s m. m) (first_ends p)

-- the number of scenarios examined
abbrev pub count : Plan → ℕ
count p = length (examined p)
