-- The effective topology: document 01, section "Effective topology".
-- Assumes nothing.
use Rattle.std.specs.Prelude.{◌≡◌, Bool, true, not, ◌&&◌, ◌||◌, List, ℕ, eqb, ltb, length}
use Rattle.sets.specs.Sets.{bit, any_below}
use Rattle.plan.specs.Plan.{Link, link_at}
use Rattle.network.specs.Outage.{Outage}

-- a plan's nodes (N) and links, and what has failed of them
pub record Network : Type 0 where
  pub nodes : ℕ
  pub links : List Link
  pub out : Outage

-- "A node works if no failing event names it."
unfoldable pub node_works : Network → ℕ → Bool
node_works net v = ltb v net.nodes && not (bit net.out.nodes v)

-- "A link works if no failing event names it and both its end nodes work."
unfoldable pub link_works : Network → ℕ → Bool
link_works net i =
    (ltb i (length net.links) && not (bit net.out.links i))
    && (node_works net (link_at net.links i).low && node_works net (link_at net.links i).high)

-- v and w are the two ends of a link
abbrev pub has_ends : Link → ℕ → ℕ → Bool
has_ends l v w = (eqb l.low v && eqb l.high w) || (eqb l.high v && eqb l.low w)

-- link i works and joins v and w
unfoldable pub joins : Network → ℕ → ℕ → ℕ → Bool
joins net i v w = link_works net i && has_ends (link_at net.links i) v w

-- a working link that joins v and w
abbrev pub WorkingLink : Network → ℕ → ℕ → Type 0
WorkingLink net v w = (i : ℕ) × (joins net i v w ≡ true)

-- whether there is one
unfoldable pub adjacent : Network → ℕ → ℕ → Bool
adjacent net v w = any_below (λ i. joins net i v w) (length net.links)

-- the network of N nodes and a list of links under an outage
abbrev pub network_of : ℕ → List Link → Outage → Network
network_of nodes links out = record { nodes = nodes; links = links; out = out }
