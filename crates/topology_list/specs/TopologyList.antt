-- The topology list: document 01, section "Further readings of a plan".
-- Assumes nothing.
use Rattle.std.specs.Prelude.{List, [], ◌∷◌, ℕ, zero, suc, ◌+◌}
use Rattle.plan.specs.Plan.{Plan}
use Rattle.network.specs.Topology.{Network, node_works, link_works}
use Rattle.walk.specs.Scenario.{Scenario}
use Rattle.sets.specs.Sets.{set_where}
use Rattle.network.specs.Outage.{Outage}
use Rattle.walk.specs.Ends.{End, dropped, relevant}
use Rattle.walk.specs.Walk.{first_ends}
use Rattle.bounds.specs.Bounds.{topology_of}
use Rattle.topology_list.specs.Entries.{added, TopologyList, topology_list, fitted}
use Rattle.topology_list.specs.declared.Topology.{Topology}

-- an effective topology in three words: the working nodes, the working links 0 to 63, the working links 64 to 127
unfoldable pub topology_in : Network → Topology
topology_in net =
    record {
      nodes = set_where (node_works net) 64;
      low = set_where (link_works net) 64;
      high = set_where (λ i. link_works net (64 + i)) 64;
    }

-- one end of the walk, by its scenario's topology: a dropped one changes nothing, and nothing changes after 15
abbrev pub placed : ℕ → (Scenario → Topology) → TopologyList → End → TopologyList
placed room topology list dropped = list
placed room topology list (relevant s m) =
    elim list.number [
      | zero ↦ fitted room list.entries (added (topology s) m list.entries)
      | suc number ↦ list
    ]

-- the ends in turn
abbrev pub placed_all : ℕ → (Scenario → Topology) → TopologyList → List End → TopologyList
placed_all room topology list [] = list
placed_all room topology list (end ∷ ends) = placed_all room topology (placed room topology list end) ends

-- the topology of a scenario
abbrev pub topology_after : Outage → Plan → Scenario → Topology
topology_after out p s = topology_in (topology_of out p s)

-- the topology list of a plan, in a list with room for `room` entries: over the examined scenarios, in the walk's order
unfoldable pub topology_list_of : Outage → ℕ → Plan → TopologyList
topology_list_of out room p = placed_all room (topology_after out p) (topology_list [] 0) (first_ends p)
