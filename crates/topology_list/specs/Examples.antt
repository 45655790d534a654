-- Examples of the topology list: two nodes and one link between them, and two events of probability 1/2.
-- Assumes nothing.
use Rattle.std.specs.Prelude.{◌≡◌, refl, List, [], ◌∷◌, ℕ}
use Rattle.sets.specs.Sets.{bit, set_where, any_below}
use Rattle.plan.specs.Plan.{Plan, Event}
use Rattle.network.specs.Outage.{intact, union_of}
use Rattle.network.specs.Topology.{node_works, link_works, joins, adjacent}
use Rattle.topology.specs.Paths.{via, disconnected}
use Rattle.walk.specs.Ends.{ends}
use Rattle.topology_list.specs.Entries.{Entry, entry, same_topology, topology_list, entry_words}
use Rattle.topology_list.specs.TopologyList.{topology_in, topology_list_of}
use Rattle.topology_list.specs.ListBounds.{lower_from, upper_from}
use Rattle.topology_list.specs.declared.Topology.{Topology}

abbrev event : ℕ → ℕ → Event
event nodes links = record { probability = 500000000; nodes = nodes; links = links }

-- event 0 takes the link down; event 1 the link too
abbrev example : ℕ → Plan
example t =
    record {
      nodes = 2;
      links = record { low = 0; high = 1 } ∷ [];
      events = event 0 1 ∷ event 0 1 ∷ [];
      threshold = t;
      cap = 100;
    }

abbrev up : Topology
up = record { nodes = 3; low = 1; high = 0 }

abbrev down : Topology
down = record { nodes = 3; low = 0; high = 0 }

-- four scenarios, of which three have the same topology. Room for one entry is too little: `proofs/Examples.antt`
example-added : topology_list_of intact 2 (example 1) ≡ topology_list (entry up 250000000000000000 ∷ entry down 750000000000000000 ∷ []) 0
unfolding topology_list_of ends topology_in set_where node_works link_works union_of bit same_topology
example-added = refl

-- nothing examined: no entry, in no room
example-none : topology_list_of intact 0 (example 250000000000000001) ≡ topology_list [] 0
unfolding topology_list_of ends
example-none = refl

-- the four words of an entry, and the bounds taken from the list and from its first entry alone
example-words : entry_words (entry up 5 ∷ []) ≡ 3 ∷ 1 ∷ 0 ∷ 5 ∷ []
unfolding entry_words
example-words = refl

abbrev one_entry : List Entry
one_entry = entry up 250000000000000000 ∷ []

abbrev two-entries : List Entry
two-entries = entry up 250000000000000000 ∷ entry down 750000000000000000 ∷ []

example-bounds : (lower_from (example 1) two-entries 0 1 ≡ 750000000000000000) × (upper_from (example 1) two-entries 0 1 ≡ 750000000000000000)
    × (lower_from (example 1) one_entry 0 1 ≡ 0) × (upper_from (example 1) one_entry 0 1 ≡ 750000000000000000)
unfolding set_where node_works link_works joins adjacent any_below bit via disconnected
example-bounds = (refl, refl, refl, refl)
