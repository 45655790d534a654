-- Small networks whose answer is known, computed from the definitions. They stand here, since an edit of a definition would be refused by them
-- before it is by the contracts.
-- Assumes nothing.
use Rattle.std.specs.Prelude.{◌≡◌, refl, Bool, true, false, List, [], ◌∷◌, ℕ}
use Rattle.sets.specs.Sets.{bit, set_where, any_below, first_below}
use Rattle.plan.specs.Plan.{Link}
use Rattle.network.specs.Topology.{network_of, node_works, link_works, joins, adjacent}
use Rattle.topology.specs.Paths.{via, disconnected}
use Rattle.topology.specs.Rounds.{in_round, adds_after, last_round, reach_of}
use Rattle.topology.specs.declared.Reach.{Reach}

-- the triangle of document 01: links 0-1, 0-2, 1-2
triangle : List Link
triangle = record { low = 0; high = 1 } ∷ record { low = 0; high = 2 } ∷ record { low = 1; high = 2 } ∷ []

-- whether nodes v and w of a network of 3 nodes are disconnected when the sets `nodes` and `links` have failed
cut : List Link → ℕ → ℕ → ℕ → ℕ → Bool
cut links nodes failed v w = disconnected (network_of 3 links (record { nodes = nodes; links = failed })) v w

pub answers : List Bool
answers =
    -- nothing failed
    cut triangle 0 0 0 1
    -- link 0-1 failed: the path goes by node 2
    ∷ cut triangle 0 1 0 1
    -- links 0-1 and 0-2 failed: node 0 is alone, and 1 and 2 are joined
    ∷ cut triangle 0 3 0 1
    ∷ cut triangle 0 3 1 2
    -- link 0-1 and node 2 failed: both links of node 2 are down
    ∷ cut triangle 4 1 0 1
    -- node 2 failed: it is disconnected even from itself
    ∷ cut triangle 4 0 2 2
    -- no links: a node without a link works, and reaches itself alone
    ∷ cut [] 0 0 0 0
    ∷ cut [] 0 0 0 1
    ∷ []

pub example-answers : answers ≡ false ∷ false ∷ true ∷ false ∷ true ∷ true ∷ false ∷ true ∷ []
unfolding answers cut triangle disconnected via adjacent joins link_works node_works any_below bit
example-answers = refl

-- ---- rounds

-- the line 0-1-2
line : List Link
line = record { low = 0; high = 1 } ∷ record { low = 1; high = 2 } ∷ []

-- what a node of the line reaches, and in how many rounds, when the sets `nodes` and `links` have failed
reaches : ℕ → ℕ → ℕ → Reach
reaches nodes failed v = reach_of (network_of 3 line (record { nodes = nodes; links = failed })) v

-- a set and a number of rounds
abbrev reached : ℕ → ℕ → Reach
reached set rounds = record { set = set; rounds = rounds }

pub rounds : List Reach
rounds =
    -- nothing failed: an end of the line, its middle, the other end
    reaches 0 0 0
    ∷ reaches 0 0 1
    ∷ reaches 0 0 2
    -- node 1 failed: node 0 is alone, and node 1 is down
    ∷ reaches 2 0 0
    ∷ reaches 2 0 1
    -- link 0-1 failed: node 2 reaches nodes 1 and 2
    ∷ reaches 0 1 2
    -- 5 is no node
    ∷ reaches 0 0 5
    ∷ []

pub example-rounds : rounds ≡ reached 7 3 ∷ reached 7 2 ∷ reached 7 3 ∷ reached 1 1 ∷ reached 0 1 ∷ reached 6 2 ∷ reached 0 1 ∷ []
unfolding rounds reaches line reach_of last_round adds_after in_round first_below set_where adjacent joins link_works node_works any_below bit
example-rounds = refl
