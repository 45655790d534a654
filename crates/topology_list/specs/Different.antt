-- The different topologies of the examined scenarios: document 01, section "Further readings of a plan".
-- Assumes nothing.
use Rattle.std.specs.Prelude.{◌≡◌, List, [], ◌∷◌}
use Rattle.topology_list.specs.Entries.{Entry, added}
use Rattle.topology_list.specs.declared.Topology.{Topology}
use Rattle.plan.specs.Plan.{Plan}
use Rattle.network.specs.Outage.{Outage}
use Rattle.walk.specs.Scenario.{Scenario}
use Rattle.walk.specs.Ends.{End, dropped, relevant}
use Rattle.walk.specs.Walk.{first_ends}
use Rattle.topology_list.specs.TopologyList.{topology_after}

-- no entry has the topology t
abbrev pub Absent : Topology → List Entry → Type 0
Absent t [] = Unit {0}
Absent t (e ∷ entries) = (t ≡ e.topology → ⊥) × Absent t entries

-- no two entries have the same topology
abbrev pub Different : List Entry → Type 0
Different [] = Unit {0}
Different (e ∷ entries) = Absent e.topology entries × Different entries

-- the entries of the ends in turn, with room for any number of them
abbrev pub added_all : (Scenario → Topology) → List Entry → List End → List Entry
added_all topology entries [] = entries
added_all topology entries (dropped ∷ list) = added_all topology entries list
added_all topology entries (relevant s m ∷ list) = added_all topology (added (topology s) m entries) list

-- the different topologies of the examined scenarios
abbrev pub different_of : Outage → Plan → List Entry
different_of out p = added_all (topology_after out p) [] (first_ends p)
