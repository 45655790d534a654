-- Reach by rounds: document 02, request U3.
-- Assumes nothing.
use Rattle.std.specs.Prelude.{Bool, not, ◌&&◌, ◌||◌, ℕ, zero, suc, eqb}
use Rattle.sets.specs.Sets.{set_where, any_below, first_below}
use Rattle.network.specs.Topology.{Network, node_works, adjacent}
use Rattle.topology.specs.declared.Reach.{Reach}

-- of n nodes: `start w` says whether w is in the set after round 0, and `near u w` whether w is a neighbour of u
module _ (n : ℕ) (start : ℕ → Bool) (near : ℕ → ℕ → Bool) where
  -- whether w is in the set after round k: "each round adding all neighbours of the nodes reached before"
  unfoldable pub in_round : ℕ → ℕ → Bool
  in_round zero w = start w
  in_round (suc k) w = in_round k w || any_below (λ u. in_round k u && near u w) n

  -- whether the round after round k adds a node
  unfoldable pub adds_after : ℕ → Bool
  adds_after k = any_below (λ w. in_round (suc k) w && not (in_round k w)) n

  -- "the first round that adds no node .. that round's number, counted from 1": one of the first n (`rounds-most` in
  -- proofs/RoundTheorems.antt)
  unfoldable pub last_round : ℕ
  last_round = suc (first_below (λ k. not (adds_after k)) n)

  -- the set after that many rounds, and the number
  abbrev pub reach_by : Reach
  reach_by = record { set = set_where (in_round last_round) n; rounds = last_round }

-- after round 0 the set holds the node v itself, and nothing where v is down
abbrev pub itself : Bool → ℕ → ℕ → Bool
itself up v w = up && eqb w v

-- whether w is in the set after round k from node v of a network
abbrev pub after_round : Network → ℕ → ℕ → ℕ → Bool
after_round net v = in_round net.nodes (itself (node_works net v) v) (adjacent net)

-- what node v of a network reaches, and in how many rounds
unfoldable pub reach_of : Network → ℕ → Reach
reach_of net v = reach_by net.nodes (itself (node_works net v) v) (adjacent net)
