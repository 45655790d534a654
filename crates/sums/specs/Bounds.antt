-- The bounds of a pair, and demand 3: document 01, section "Bounds of a pair". The pair stands here for any test `cut` of a scenario,
-- "its topology disconnects the pair".
-- Assumes nothing.
use Rattle.std.specs.Prelude.{Bool, not, ℕ, ◌+◌, ◌-◌, ◌*◌, ◌≤◌}
use Rattle.mass.specs.Split.{whole}
use Rattle.plan.specs.Plan.{Plan}
use Rattle.walk.specs.Scenario.{Scenario}
use Rattle.sets.specs.Sets.{digit}
use Rattle.walk.specs.Ends.{weighed}
use Rattle.walk.specs.Walk.{first_ends}
use Rattle.sums.specs.Exact.{scale}

module _ (p : Plan) (cut : Scenario → Bool) where
  -- "Lower is the sum of the examined masses whose topology disconnects the pair."
  abbrev pub lower : ℕ
  lower = weighed (λ s. digit (cut s)) (first_ends p)

  -- the sum of the examined masses whose topology does not
  abbrev pub connected : ℕ
  connected = weighed (λ s. digit (not (cut s))) (first_ends p)

  -- "Upper is 10^18 less the sum of the examined masses whose topology does not."
  abbrev pub upper : ℕ
  upper = whole - connected

-- demand 3: for n events, the bounds lower and upper, the exact sums D (d) and R (r) and the count of scenarios examined
pub record Demand3 (n lower upper d r count : ℕ) : Type 0 where
  pub below : lower * scale n ≤ d * whole
  pub above : d * whole ≤ upper * scale n
  pub gap : upper * scale n ≤ lower * scale n + (r * whole + n * count * scale n)
