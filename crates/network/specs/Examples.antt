-- What has failed in a small scenario, computed from the definitions.
-- Assumes nothing.
use Rattle.std.specs.Prelude.{◌≡◌, refl, List, [], ◌∷◌}
use Rattle.sets.specs.Sets.{bit}
use Rattle.plan.specs.Plan.{Event}
use Rattle.network.specs.Outage.{union_of, outage_of}

-- events 0 and 2 of three fail, beside node 5 that had failed at the start
events : List Event
events =
    record { probability = 9; nodes = 1; links = 6 }
    ∷ record { probability = 8; nodes = 2; links = 8 }
    ∷ record { probability = 7; nodes = 4; links = 2 }
    ∷ []

example-outage : outage_of (record { nodes = 32; links = 0 }) events 5 ≡ record { nodes = 37; links = 6 }
unfolding events union_of bit
example-outage = refl
