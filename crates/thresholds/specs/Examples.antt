-- Computed examples: the test of a list of thresholds, blocks and places, and a plan with three thresholds. The order of the refusals is in
-- `proofs/Examples.antt`.
-- Assumes nothing.
use Rattle.std.specs.Prelude.{◌≡◌, refl, List, [], ◌∷◌, ℕ, ◌+◌, ◌*◌, replicate}
use Rattle.mass.specs.Split.{whole}
use Rattle.sets.specs.Sets.{bit, any_below}
use Rattle.plan.specs.Lists.{links_of, events_of}
use Rattle.plan.specs.LentLists.{plan_of_lists}
use Rattle.network.specs.Outage.{intact, union_of}
use Rattle.network.specs.Topology.{node_works, link_works, joins, adjacent}
use Rattle.topology.specs.Paths.{via, disconnected}
use Rattle.walk.specs.Ends.{ends}
use Rattle.pairs.specs.Pairs.{row, rows, table}
use Rattle.bounds.specs.Bounds.{lower_list, upper_list}
use Rattle.thresholds.specs.Thresholds.{plan_at, thresholds_test, blocks, places, answer_of}
use Rattle.thresholds.specs.declared.CommonHeader.{CommonHeader}

-- two nodes, the link 0-1 and an event of 1/10 on it, with a cap
abbrev header : ℕ → CommonHeader
header cap = record { nodes = 2; links = 1; events = 1; cap = cap }

abbrev event : List ℕ
event = 100000000 ∷ 0 ∷ 1 ∷ 0 ∷ []

-- 16 thresholds, and one more
abbrev sixteen : List ℕ
sixteen = 16 ∷ 15 ∷ 14 ∷ 13 ∷ 12 ∷ 11 ∷ 10 ∷ 9 ∷ 8 ∷ 7 ∷ 6 ∷ 5 ∷ 4 ∷ 3 ∷ 2 ∷ 1 ∷ []

-- accepted: the least, the greatest, both, and 16 of them
example-accepted : (thresholds_test (1 ∷ []) ≡ 0) × (thresholds_test (whole ∷ []) ≡ 0) × (thresholds_test (whole ∷ 1 ∷ []) ≡ 0)
    × (thresholds_test sixteen ≡ 0)
example-accepted = (refl, refl, refl, refl)

-- refused: none, 17, a 0 first or last, one above 10^18, two equal ones, and a rising one
example-refused : (thresholds_test [] ≡ 23) × (thresholds_test (17 ∷ sixteen) ≡ 23) × (thresholds_test (0 ∷ []) ≡ 23)
    × (thresholds_test (1 ∷ 0 ∷ []) ≡ 23) × (thresholds_test ((whole + 1) ∷ []) ≡ 23) × (thresholds_test (5 ∷ 5 ∷ []) ≡ 23)
    × (thresholds_test (5 ∷ 3 ∷ 4 ∷ []) ≡ 23)
example-refused = (refl, refl, refl, refl, refl, refl, refl)

-- blocks in the order of the list, and its values at the places
example-blocks : (blocks (λ t. t ∷ (t + 1) ∷ []) (50 ∷ 30 ∷ []) ≡ 50 ∷ 51 ∷ 30 ∷ 31 ∷ [])
    × (places (λ t. 2 * t) (50 ∷ 30 ∷ []) ≡ 100 ∷ 60 ∷ replicate 14 0) × (places (λ t. t) sixteen ≡ sixteen)
example-blocks = (refl, refl, refl)

-- the plan with three thresholds: neither end is examined, that with the event working is, and both are
abbrev three : List ℕ
three = whole ∷ 500000000000000000 ∷ 1 ∷ []

example-answer : answer_of (plan_at (header 9) (0 ∷ 1 ∷ []) event) three
    ≡ record {
      count = 0 ∷ 1 ∷ 2 ∷ replicate 13 0;
      complete = 1 ∷ 1 ∷ 1 ∷ replicate 13 0;
      mass = 0 ∷ 900000000000000000 ∷ whole ∷ replicate 13 0;
    }
unfolding plan_of_lists links_of events_of ends
example-answer = refl

-- its bounds: one pair, so one entry in each block
example-bounds : (blocks (λ t. lower_list intact (plan_at (header 9) (0 ∷ 1 ∷ []) event t)) three ≡ 0 ∷ 0 ∷ 100000000000000000 ∷ [])
    × (blocks (λ t. upper_list intact (plan_at (header 9) (0 ∷ 1 ∷ []) event t)) three
    ≡ whole ∷ 100000000000000000 ∷ 100000000000000000 ∷ [])
unfolding plan_of_lists links_of events_of ends table rows row disconnected via node_works link_works joins adjacent any_below union_of bit
example-bounds = (refl, refl)
