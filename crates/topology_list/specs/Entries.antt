-- The entries of a topology list: document 01, section "Further readings of a plan".
-- Assumes nothing.
use Rattle.std.specs.Prelude.{Bool, cond, ◌&&◌, List, [], ◌∷◌, ℕ, ◌+◌, eqb, ltb, length}
use Rattle.topology_list.specs.declared.Topology.{Topology}

-- an entry of the list: a topology and the mass of the scenarios that have it
pub record Entry : Type 0 where
  pub topology : Topology
  pub mass : ℕ

abbrev pub entry : Topology → ℕ → Entry
entry topology mass = record { topology = topology; mass = mass }

-- the sum of the masses of a list's entries
abbrev pub masses_in : List Entry → ℕ
masses_in [] = 0
masses_in (e ∷ entries) = e.mass + masses_in entries

-- whether two topologies are equal
unfoldable pub same_topology : Topology → Topology → Bool
same_topology a b = eqb a.nodes b.nodes && (eqb a.low b.low && eqb a.high b.high)

-- "for each different effective topology, by first appearance, equal ones added up": a mass goes to the entry of its topology, or to a new
-- one after the last
abbrev pub added : Topology → ℕ → List Entry → List Entry
added t m [] = entry t m ∷ []
added t m (e ∷ entries) = cond (same_topology e.topology t) (entry e.topology (e.mass + m) ∷ entries) (e ∷ added t m entries)

-- the list so far: its entries, and 15 once a topology found no entry left, else 0
pub record TopologyList : Type 0 where
  pub entries : List Entry
  pub number : ℕ

abbrev pub topology_list : List Entry → ℕ → TopologyList
topology_list entries number = record { entries = entries; number = number }

-- the new entries where `room` entries hold them; else the old ones, and 15
abbrev pub fitted : ℕ → List Entry → List Entry → TopologyList
fitted room old new = cond (ltb room (length new)) (topology_list old 15) (topology_list new 0)

-- the words of a list of entries
unfoldable pub entry_words : List Entry → List ℕ
entry_words [] = []
entry_words (e ∷ entries) = e.topology.nodes ∷ e.topology.low ∷ e.topology.high ∷ e.mass ∷ entry_words entries
