-- What the call `topologies` answers, and what it leaves in the lent list, for every input.
-- Assumes nothing.
use Rattle.std.specs.Prelude.{List, [], ◌∷◌, ℕ, ◌/◌, length}
use Rattle.mass.specs.Refusal.{first}
use Rattle.plan.specs.LentLists.{Lent, lists_number, plan_lent}
use Rattle.plan.specs.Calls.{filled}
use Rattle.network.specs.Outage.{Outage}
use Rattle.topology_list.specs.Entries.{TopologyList, entry_words}
use Rattle.topology_list.specs.TopologyList.{topology_list_of}

-- the topology list of what is lent, in a lent list of words: up to three words at its tail make no whole entry
abbrev pub topology_list_in : Outage → Lent → List ℕ → TopologyList
topology_list_in out l list = topology_list_of out (length list / 4) (plan_lent l)

-- the lists' tests, then 15
unfoldable pub topologies_number : Outage → Lent → List ℕ → ℕ
topologies_number out l list = first (lists_number l ∷ (topology_list_in out l list).number ∷ [])

-- what the call leaves in the lent list: a refusal of the lists changes nothing; else, also at 15, the entries stand from the start, and
-- the words past the last entry stay as they were
abbrev pub list_after : Outage → Lent → List ℕ → List ℕ
list_after out l list = filled (lists_number l) (entry_words (topology_list_in out l list).entries) list
