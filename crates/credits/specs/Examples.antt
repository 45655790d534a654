-- Computed examples of credits, headroom and refusal 20.
-- Assumes nothing.
use Rattle.std.specs.Prelude.{◌≡◌, refl, pos, negsuc}
use Rattle.sets.specs.Sets.{bit, any_below}
use Rattle.network.specs.Outage.{intact, union_of}
use Rattle.network.specs.Topology.{node_works, link_works, joins, adjacent}
use Rattle.topology.specs.Paths.{via, disconnected}
use Rattle.walk.specs.Ends.{ends}
use Rattle.sums.specs.Exact.{scale, exact_sum}
use Rattle.bounds.specs.Bounds.{lower_of, upper_of}
use Rattle.readings.specs.Downtime.{year, seconds_of}
use Rattle.readings.specs.Examples.{line}
use Rattle.credits.specs.Credit.{most_cents, terms_test, started_minutes, credit_for, headroom_of, credits_of, exact_credit}

-- a limit of 100 seconds: 0 seconds above it are 0 minutes, 1 to 60 are 1, 61 are 2
example-minutes : (started_minutes 1 100 0 ≡ 0) × (started_minutes 1 100 100 ≡ 0) × (started_minutes 1 100 101 ≡ 1)
    × (started_minutes 1 100 160 ≡ 1) × (started_minutes 1 100 161 ≡ 2)
example-minutes = (refl, refl, refl, refl, refl)

-- the same times in thousandths of a second; a thousandth above the limit starts a minute, and a thousandth above a minute the next one
example-parts : (started_minutes 1000 100 100000 ≡ 0) × (started_minutes 1000 100 100001 ≡ 1) × (started_minutes 1000 100 160000 ≡ 1)
    × (started_minutes 1000 100 160001 ≡ 2)
example-parts = (refl, refl, refl, refl)

-- a rate of 500 cents and a limit of 100 seconds: two started minutes; the fee where it is less; nothing where fee or rate is 0
example-credit : (credit_for 5000 100 500 1 161 ≡ 1000) × (credit_for 999 100 500 1 161 ≡ 999) × (credit_for 0 100 500 1 161 ≡ 0)
    × (credit_for 5000 100 0 1 161 ≡ 0)
example-credit = (refl, refl, refl, refl)

-- the headroom is 0 at the limit, 1 below it, and −1 (`negsuc 0`) above it; both ends of its range
example-headroom : (headroom_of 100 100 ≡ pos 0) × (headroom_of 100 99 ≡ pos 1) × (headroom_of 100 101 ≡ negsuc 0)
    × (headroom_of year 0 ≡ pos year) × (headroom_of 0 year ≡ negsuc 31535999)
example-headroom = (refl, refl, refl, refl, refl)

-- downtimes of 40 and 161 seconds: no credit, two started minutes, 61 seconds past the limit
example-credits : credits_of 5000 100 500 (record { lower = 40; upper = 161 }) ≡ record { lower = 0; upper = 1000; headroom = negsuc 60 }
example-credits = refl

-- each number at its limit is accepted; one more of each is refused
example-terms : (terms_test most_cents year most_cents ≡ 0) × (terms_test 1000000000001 0 0 ≡ 20) × (terms_test 0 31536001 0 ≡ 20)
    × (terms_test 0 0 1000000000001 ≡ 20)
example-terms = (refl, refl, refl, refl)

-- a link that fails with 10^-9 is a risk of 0.03 seconds a year. With a limit of 0 the exact downtime starts a minute, and so does the
-- upper one, 1 second, but not the lower one, 0 seconds
example-exact : (exact_credit intact (line 1 1 100) 0 1 5000 0 500 ≡ 500)
    × (credits_of 5000 0 500 (seconds_of (lower_of intact (line 1 1 100) 0 1) (upper_of intact (line 1 1 100) 0 1))
    ≡ record { lower = 0; upper = 500; headroom = negsuc 0 })
unfolding ends disconnected via node_works link_works joins adjacent any_below union_of bit exact_sum scale
example-exact = (refl, refl)
