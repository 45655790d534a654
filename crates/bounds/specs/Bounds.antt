-- The bounds of a pair: document 01, section "Bounds of a pair", over a network of which some nodes and links may be out.
-- Assumes nothing.
use Rattle.std.specs.Prelude.{Bool, List, ℕ, ◌<◌, length, get_or}
use Rattle.plan.specs.Plan.{Plan}
use Rattle.network.specs.Outage.{Outage, outage_of}
use Rattle.network.specs.Topology.{Network, network_of}
use Rattle.topology.specs.Paths.{disconnected}
use Rattle.walk.specs.Scenario.{Scenario, failing_set}
use Rattle.sums.specs.Exact.{exact_cut, exact_missed}
use Rattle.sums.specs.Bounds.{lower, upper, Demand3}
use Rattle.pairs.specs.Pairs.{table, place}

-- the effective topology of a scenario: it "takes a starting set", what is out before the first event
abbrev pub topology_of : Outage → Plan → Scenario → Network
topology_of out p s = network_of p.nodes p.links (outage_of out p.events (failing_set s))

-- whether a scenario's topology disconnects the pair (v, w)
abbrev pub cuts : Outage → Plan → ℕ → ℕ → Scenario → Bool
cuts out p v w s = disconnected (topology_of out p s) v w

-- the bounds of the pair (v, w)
abbrev pub lower_of : Outage → Plan → ℕ → ℕ → ℕ
lower_of out p v w = lower p (cuts out p v w)

abbrev pub upper_of : Outage → Plan → ℕ → ℕ → ℕ
upper_of out p v w = upper p (cuts out p v w)

-- the bounds of all pairs, in order
abbrev pub lower_list : Outage → Plan → List ℕ
lower_list out p = table (lower_of out p) p.nodes

abbrev pub upper_list : Outage → Plan → List ℕ
upper_list out p = table (upper_of out p) p.nodes

-- demand 3 for one pair: `low` and `high` are its bounds, `examined` is the number of scenarios examined. D, "taken over the reduced
-- network", counts the sets whose topology, with what is out, disconnects the pair
abbrev pub Encloses : Outage → Plan → ℕ → ℕ → ℕ → ℕ → ℕ → Type 0
Encloses out p v w low high examined =
    Demand3 (length p.events) low high (exact_cut p (cuts out p v w)) (exact_missed p) examined

-- demand 3 for every pair, with its bounds at its place in two lists
abbrev pub EnclosesAll : Outage → Plan → List ℕ → List ℕ → ℕ → Type 0
EnclosesAll out p lowers uppers examined =
    (v w : ℕ) → v < w → w < p.nodes
    → Encloses out p v w (get_or lowers (place p.nodes v w) 0) (get_or uppers (place p.nodes v w) 0) examined
