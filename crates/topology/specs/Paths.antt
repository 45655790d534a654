-- Paths of working links, and when two nodes are disconnected: document 01, section "Effective topology".
-- Assumes nothing.
use Rattle.std.specs.Prelude.{◌≡◌, Bool, true, false, not, ◌&&◌, ◌||◌, ◌⊎◌, ℕ, zero, suc, eqb}
use Rattle.network.specs.Topology.{Network, node_works, adjacent, WorkingLink}

-- a path by steps of one kind: here, or one step more
pub data Chain (step : ℕ → ℕ → Type 0) : ℕ → ℕ → Type 0 where
  here : {v : ℕ} → Chain step v v
  more : {v u w : ℕ} → step v u → Chain step u w → Chain step v w

-- a path of working links
abbrev pub WorkingPath : Network → ℕ → ℕ → Type 0
WorkingPath net = Chain (WorkingLink net)

-- v works and a path of working links joins v and w
abbrev pub Reaches : Network → ℕ → ℕ → Type 0
Reaches net v w = (node_works net v ≡ true) × WorkingPath net v w

-- "Two nodes are disconnected if either is down or no path of working links joins them."
abbrev pub Disconnected : Network → ℕ → ℕ → Type 0
Disconnected net v w = (node_works net v ≡ false) ⊎ ((node_works net w ≡ false) ⊎ (WorkingPath net v w → ⊥))

-- whether a path joins v and w whose nodes between them are among the first k
unfoldable pub via : Network → ℕ → ℕ → ℕ → Bool
via net zero v w = eqb v w || adjacent net v w
via net (suc k) v w = via net k v w || (via net k v k && via net k k w)

-- the same as a Bool, for sums: true exactly where the two nodes are disconnected (`disconnected-is` in
-- proofs/Theorems.antt)
unfoldable pub disconnected : Network → ℕ → ℕ → Bool
disconnected net v w = not ((node_works net v && node_works net w) && via net net.nodes v w)
