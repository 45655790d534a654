-- The links of a list of bytes, and a table of each node's links, made once for a network.
-- Assumes nothing.
use Rattle.std.specs.Prelude.{◌≡◌, Bool, ◌&&◌, ◌||◌, List, ℕ, ◌+◌, ◌*◌, ◌/◌, ◌%◌, ◌<◌, eqb, ltb, get_or}
use Rattle.sets.specs.Sets.{bit, any_below}
use Rattle.plan.specs.Plan.{Link}
use Rattle.network.specs.Topology.{has_ends}

-- the link between two nodes
abbrev pub ends_of : ℕ → ℕ → Link
ends_of a b = record { low = a; high = b }

-- link i of a list of bytes, two to a link
abbrev pub link_in : List ℕ → ℕ → Link
link_in bytes i = ends_of (get_or bytes (2 * i + 0) 0) (get_or bytes (2 * i + 1) 0)

-- whether a link base + i joins v and w, for an element i of a word
abbrev pub joined_by : List ℕ → ℕ → ℕ → ℕ → ℕ → Bool
joined_by bytes base set v w = any_below (λ i. bit set i && has_ends (link_in bytes (base + i)) v w) 64

-- whether v is an end of link i
abbrev pub is_end : List ℕ → ℕ → ℕ → Bool
is_end bytes v i = eqb (link_in bytes i).low v || eqb (link_in bytes i).high v

-- whether a table has link i at node v: words 2v and 2v + 1 are v's, for links 0 to 63 and 64 to 127
abbrev pub table_has : List ℕ → ℕ → ℕ → Bool
table_has table v i = bit (get_or table (2 * v + i / 64) 0) (i % 64)

-- whether a table has link i at a node of a set
abbrev pub at_nodes : List ℕ → ℕ → ℕ → Bool
at_nodes table nodes i = any_below (λ v. bit nodes v && table_has table v i) 64

-- the table has each of the first `count` links at its two ends, and nowhere else
pub record LinksAt (bytes : List ℕ) (count : ℕ) (table : List ℕ) : Type 0 where
  pub each : (v i : ℕ) → v < 64 → i < 128 → table_has table v i ≡ (ltb i count && is_end bytes v i)
