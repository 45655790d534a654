-- What the export of reach answers, for every input.
-- Assumes nothing.
use Rattle.std.specs.Prelude.{◌≡◌, List, [], ◌∷◌, ℕ, zero, suc, ◌*◌, leb, length}
use Rattle.mass.specs.Refusal.{refuse, first}
use Rattle.refusals.specs.Tests.{counts_test, room_test}
use Rattle.plan.specs.Lists.{links_of}
use Rattle.plan.specs.LentLists.{link_list_refusal}
use Rattle.plan.specs.Held.{LinksHeld}
use Rattle.network.specs.Code.{network_in}
use Rattle.network.specs.declared.Failed.{Failed}
use Rattle.topology.specs.Rounds.{reach_of}
use Rattle.topology.specs.declared.Reach.{Reach}

-- "4, 12, 7 as of the lists": the counts, a list shorter than twice the count, each link
unfoldable pub links_number : ℕ → ℕ → List ℕ → ℕ
links_number nodes count links =
    first (counts_test nodes count 0 ∷ room_test (length links) (2 * count) ∷ link_list_refusal nodes (links_of count links) ∷ [])

-- 13: v is no node
abbrev pub node_test : ℕ → ℕ → ℕ
node_test nodes v = refuse (leb nodes v) 13

-- the number with which the call is refused
unfoldable pub reach_number : ℕ → ℕ → List ℕ → ℕ → ℕ
reach_number nodes count links v = first (links_number nodes count links ∷ node_test nodes v ∷ [])

-- what node v reaches, and in how many rounds, by the first `count` links of a list of bytes, under what has failed
abbrev pub reach_in : ℕ → ℕ → List ℕ → Failed → ℕ → Reach
reach_in nodes count links failed v = reach_of (network_in nodes failed links count) v

-- the two words that are handed out: the set and the number of rounds
abbrev pub reach_values : Reach → List ℕ
reach_values reach = reach.set ∷ reach.rounds ∷ []

-- accepted links were taken into an array: it holds the same links, of so few nodes and links as every later function asks
pub record LinksTaken (nodes count : ℕ) (links bytes : List ℕ) : Type 0 where
  pub same : links_of count bytes ≡ links_of count links
  pub held : LinksHeld nodes bytes count
