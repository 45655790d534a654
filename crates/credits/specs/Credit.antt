-- Service credits: document 02, request U6. Fee, rate and credits are in cents, the limit in seconds of a year of 365 days.
-- Assumes nothing.
use Rattle.std.specs.Prelude.{◌||◌, [], ◌∷◌, ℕ, ◌+◌, ◌-◌, ◌*◌, ◌/◌, ◌≤◌, min, ltb, ℤ, pos, ◌-ℤ◌, length}
use Rattle.mass.specs.Refusal.{refuse, first}
use Rattle.plan.specs.Plan.{Plan}
use Rattle.plan.specs.LentLists.{Lent}
use Rattle.network.specs.Outage.{Outage}
use Rattle.sums.specs.Exact.{scale, exact_cut}
use Rattle.bounds.specs.Bounds.{cuts, lower_of, upper_of}
use Rattle.bounds.specs.Calls.{pair_number}
use Rattle.readings.specs.Downtime.{year, seconds_of}
use Rattle.readings.specs.declared.Seconds.{Seconds}
use Rattle.credits.specs.declared.Credits.{Credits}

-- 10^12, the most cents of a fee or a rate
abbrev pub most_cents : ℕ
most_cents = 1000000000000

-- 20: "fee or rate is above 10^12 cents or the limit above 31,536,000"
abbrev pub terms_test : (fee limit rate : ℕ) → ℕ
terms_test fee limit rate = refuse (ltb most_cents fee || ltb most_cents rate || ltb year limit) 20

-- the minutes of a time that are above a limit, "each started minute" counted. The time is in parts of a second, of which `parts` make one:
-- a downtime in whole seconds has `parts` 1; the limit is in whole seconds
abbrev pub started_minutes : (parts limit time : ℕ) → ℕ
started_minutes parts limit time = (time - limit * parts + (60 * parts - 1)) / (60 * parts)

-- "the rate times those minutes, or the fee if less"
abbrev pub credit_for : (fee limit rate parts time : ℕ) → ℕ
credit_for fee limit rate parts time = min fee (rate * started_minutes parts limit time)

-- "the headroom, limit minus upper downtime, is a signed number of seconds": the difference of two integers
abbrev pub headroom_of : (limit seconds : ℕ) → ℤ
headroom_of limit seconds = pos limit -ℤ pos seconds

-- "for the lower and for the upper downtime"
abbrev pub credits_of : (fee limit rate : ℕ) → Seconds → Credits
credits_of fee limit rate seconds = record {
  lower = credit_for fee limit rate 1 seconds.lower;
  upper = credit_for fee limit rate 1 seconds.upper;
  headroom = headroom_of limit seconds.upper;
}

-- the number with which a call is refused: that of the bounds of the pair (the lists' tests, 13), then 20, "tested after the pair"
unfoldable pub credit_number : Lent → (v w fee limit rate : ℕ) → ℕ
credit_number l v w fee limit rate = first (pair_number l v w ∷ terms_test fee limit rate ∷ [])

-- the credits of the pair (v, w)
abbrev pub credit_of : Outage → Plan → (v w fee limit rate : ℕ) → Credits
credit_of out p v w fee limit rate = credits_of fee limit rate (seconds_of (lower_of out p v w) (upper_of out p v w))

-- the credit of a pair's exact downtime, D × 31,536,000 seconds, with D in units of 10^-9n
abbrev pub exact_credit : Outage → Plan → (v w fee limit rate : ℕ) → ℕ
exact_credit out p v w fee limit rate = credit_for fee limit rate (scale (length p.events)) (exact_cut p (cuts out p v w) * year)

-- that credit lies between the two
pub record CreditWithin (exact : ℕ) (credits : Credits) : Type 0 where
  pub below : credits.lower ≤ exact
  pub above : exact ≤ credits.upper
