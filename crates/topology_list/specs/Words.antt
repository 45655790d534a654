-- The entries of a topology list in memory, four words each: nodes, links 0 to 63, links 64 to 127, mass. What a search for one and
-- placing a mass ask and promise.
-- Assumes nothing.
use Rattle.std.specs.Prelude.{◌≡◌, true, false, List, [], ◌∷◌, ℕ, zero, suc, ◌+◌, ◌*◌, ◌<◌, ◌≤◌, length, get_or, drop, Result, IfOk}
use Rattle.mass.specs.Refusal.{number_in}
use Rattle.mass.specs.declared.refusal.Refusal.{Refusal}
use Rattle.mass.specs.Split.{whole}
use Rattle.topology_list.specs.Entries.{Entry, entry, masses_in, same_topology, TopologyList}
use Rattle.topology_list.specs.declared.Topology.{Topology}

-- entry i of a list of words
abbrev pub topology_at : List ℕ → ℕ → Topology
topology_at words i = record { nodes = get_or words (4 * i) 0; low = get_or words (4 * i + 1) 0; high = get_or words (4 * i + 2) 0 }

abbrev pub mass_at : List ℕ → ℕ → ℕ
mass_at words i = get_or words (4 * i + 3) 0

abbrev pub entry_at : List ℕ → ℕ → Entry
entry_at words i = entry (topology_at words i) (mass_at words i)

-- the first `count` entries of a list of words
unfoldable pub entries_of : ℕ → List ℕ → List Entry
entries_of zero words = []
entries_of (suc count) words = entry_at words 0 ∷ entries_of count (drop 4 words)

-- a search: r is the first of `count` entries that has the topology, or `count`
pub record Found (t : Topology) (count : ℕ) (words : List ℕ) (r : ℕ) : Type 0 where
  pub within : r ≤ count
  pub before : (j : ℕ) → j < r → same_topology (topology_at words j) t ≡ false
  pub there : r < count → same_topology (topology_at words r) t ≡ true

-- what placing a mass asks: `count` whole entries, and a sum that leaves room for it
pub record MassFits (count mass : ℕ) (words : List ℕ) : Type 0 where
  pub room : 4 * count ≤ length words
  pub fits : masses_in (entries_of count words) + mass ≤ whole

-- what it promises: the answer has the list's number, and how many entries it has where it is given; the words hold the entries of the list,
-- also at 15, and those past the last entry stay as they were
pub record HoldsList (list : TopologyList) (count : ℕ) (words words' : List ℕ) (r : Result ℕ Refusal) : Type 0 where
  pub number : number_in r ≡ list.number
  pub count-is : IfOk r (λ n. n ≡ length list.entries)
  pub entries : entries_of (length list.entries) words' ≡ list.entries
  pub grows : count ≤ length list.entries
  pub room : 4 * length list.entries ≤ length words'
  pub others : drop (4 * length list.entries) words' ≡ drop (4 * length list.entries) words
  pub sized : length words' ≡ length words
