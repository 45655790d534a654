-- Downtime: document 01, section "Further readings of a plan", with the rounding of document 02, request U1.
-- Assumes nothing.
use Rattle.std.specs.Prelude.{◌≡◌, refl, [], ◌∷◌, ℕ, ◌+◌, ◌-◌, ◌*◌, ◌/◌, ◌≤◌, ◌<◌, length}
use Rattle.mass.specs.Refusal.{first}
use Rattle.mass.specs.Split.{whole, mass_test}
use Rattle.plan.specs.Plan.{Plan}
use Rattle.plan.specs.LentLists.{plan_refusal}
use Rattle.network.specs.Outage.{Outage}
use Rattle.sums.specs.Exact.{scale, exact_cut}
use Rattle.bounds.specs.Bounds.{cuts, lower_of, upper_of}
use Rattle.readings.specs.declared.Seconds.{Seconds}

-- the seconds of 365 days
abbrev pub year : ℕ
year = 31536000

-- a lower mass "times 31,536,000 seconds (365 days), over 10^18", rounded down
abbrev pub lower_seconds : ℕ → ℕ
lower_seconds m = m * year / whole

-- an upper mass, "rounded up": the least number of seconds that is not below mass × 31,536,000 ÷ 10^18
abbrev pub upper_seconds : ℕ → ℕ
upper_seconds m = (m * year + (whole - 1)) / whole

-- 16 where either mass is above one whole
abbrev pub downtime_refusal : ℕ → ℕ → ℕ
downtime_refusal lower upper = first (mass_test lower ∷ mass_test upper ∷ [])

-- the seconds of the two masses
abbrev pub seconds_of : ℕ → ℕ → Seconds
seconds_of lower upper = record { lower = lower_seconds lower; upper = upper_seconds upper }

-- the exact downtime, D × 31,536,000 seconds for a D in units of 10^-9n, lies between the two seconds
pub record DowntimeWithin (n d : ℕ) (seconds : Seconds) : Type 0 where
  pub below : seconds.lower * scale n ≤ d * year
  pub above : d * year ≤ seconds.upper * scale n

-- "Where the two masses are the bounds of a pair, its exact downtime must lie between the two": whatever is out before the first event, for
-- every plan that meets no refusal, and every pair of it whose lower and upper bound they are
abbrev pub EnclosesDowntime : ℕ → ℕ → Seconds → Type 0
EnclosesDowntime lower upper seconds =
    (out : Outage) (p : Plan) → plan_refusal p ≡ 0 → (v w : ℕ) → v < w → w < p.nodes → lower_of out p v w ≡ lower → upper_of out p v w ≡ upper
    → DowntimeWithin (length p.events) (exact_cut p (cuts out p v w)) seconds

-- two masses are the bounds of no pair
abbrev pub NoBounds : ℕ → ℕ → Type 0
NoBounds lower upper =
    (out : Outage) (p : Plan) → plan_refusal p ≡ 0 → (v w : ℕ) → lower_of out p v w ≡ lower → upper_of out p v w ≡ upper → ⊥

-- examples: nothing; the whole year; 62,500,000,000,000 units, which make 1,971 seconds and are not raised
example-exact : (seconds_of 0 0 ≡ record { lower = 0; upper = 0 }) × (seconds_of whole whole ≡ record { lower = year; upper = year })
    × (seconds_of 62500000000000 62500000000000 ≡ record { lower = 1971; upper = 1971 })
example-exact = (refl, refl, refl)

-- the case that the request names; the most units that are less than one second, and the least that are more
example-rounded : (seconds_of 0 4 ≡ record { lower = 0; upper = 1 }) × (seconds_of 31709791983 31709791983 ≡ record { lower = 0; upper = 1 })
    × (seconds_of 31709791984 31709791984 ≡ record { lower = 1; upper = 2 })
example-rounded = (refl, refl, refl)
