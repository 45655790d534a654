-- A computed example of a topology list without room: two nodes and one link between them, and two events of probability 1/2, as in
-- `specs/Examples.antt`. It stands here, since an edit of what a full list holds would be refused by it before it is by the contracts.
-- Assumes nothing.
use Rattle.std.specs.Prelude.{◌≡◌, refl, [], ◌∷◌, ℕ}
use Rattle.sets.specs.Sets.{bit, set_where}
use Rattle.plan.specs.Plan.{Plan, Event}
use Rattle.network.specs.Outage.{intact, union_of}
use Rattle.network.specs.Topology.{node_works, link_works}
use Rattle.walk.specs.Ends.{ends}
use Rattle.topology_list.specs.Entries.{entry, same_topology, topology_list}
use Rattle.topology_list.specs.TopologyList.{topology_in, topology_list_of}
use Rattle.topology_list.specs.declared.Topology.{Topology}

abbrev event : ℕ → ℕ → Event
event nodes links = record { probability = 500000000; nodes = nodes; links = links }

-- event 0 takes the link down; event 1 the link too
abbrev example : ℕ → Plan
example t =
    record {
      nodes = 2;
      links = record { low = 0; high = 1 } ∷ [];
      events = event 0 1 ∷ event 0 1 ∷ [];
      threshold = t;
      cap = 100;
    }

abbrev up : Topology
up = record { nodes = 3; low = 1; high = 0 }

-- four scenarios, of which three have the same topology; room for one entry is too little, and what the first gave stays
pub example-full : topology_list_of intact 1 (example 1) ≡ topology_list (entry up 250000000000000000 ∷ []) 15
unfolding topology_list_of ends topology_in set_where node_works link_works union_of bit same_topology
example-full = refl
