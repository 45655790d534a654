-- Bounds taken from a topology list: document 01, section "Further readings of a plan".
-- Assumes nothing.
use Rattle.std.specs.Prelude.{Bool, not, List, [], ◌∷◌, ℕ, ◌+◌, ◌-◌, ◌*◌}
use Rattle.sets.specs.Sets.{bit, joined, digit, set_where}
use Rattle.mass.specs.Split.{whole}
use Rattle.plan.specs.Plan.{Plan}
use Rattle.network.specs.Outage.{Outage}
use Rattle.network.specs.Topology.{network_of}
use Rattle.topology.specs.Paths.{disconnected}
use Rattle.topology_list.specs.Entries.{Entry}
use Rattle.topology_list.specs.declared.Topology.{Topology}

-- the sum over the entries of mass × weight of the topology
abbrev pub sum_entries : (Topology → ℕ) → List Entry → ℕ
sum_entries weight [] = 0
sum_entries weight (e ∷ entries) = e.mass * weight e.topology + sum_entries weight entries

-- what is down in a topology of three words: the nodes and the links that are not among the working ones
abbrev pub down_in : Topology → Outage
down_in t = record { nodes = set_where (λ v. not (bit t.nodes v)) 64; links = set_where (λ i. not (bit (joined t.low t.high) i)) 128 }

-- whether the pair (v, w) of a plan is disconnected in a topology of three words
abbrev pub cut_in : Plan → ℕ → ℕ → Topology → Bool
cut_in p v w t = disconnected (network_of p.nodes p.links (down_in t)) v w

-- lower, taken from the list: the masses of the entries whose topology disconnects the pair
abbrev pub lower_from : Plan → List Entry → ℕ → ℕ → ℕ
lower_from p entries v w = sum_entries (λ t. digit (cut_in p v w t)) entries

-- upper, taken from the list: 10^18 less the masses of the entries whose topology does not
abbrev pub upper_from : Plan → List Entry → ℕ → ℕ → ℕ
upper_from p entries v w = whole - sum_entries (λ t. digit (not (cut_in p v w t))) entries
