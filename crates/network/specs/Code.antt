-- The code's structs and lists as the network that they hold.
-- Assumes nothing.
use Rattle.std.specs.Prelude.{List, ℕ}
use Rattle.sets.specs.Sets.{joined}
use Rattle.plan.specs.Lists.{links_of}
use Rattle.network.specs.Outage.{Outage}
use Rattle.network.specs.Topology.{Network, network_of}
use Rattle.network.specs.declared.Failed.{Failed}

-- what a `Failed` says has failed: links 64 to 127 stand in the high word
abbrev pub outage : Failed → Outage
outage f = record { nodes = f.nodes; links = joined f.low f.high }

-- the network of n nodes and the first `count` links of a list of bytes, under what has failed
abbrev pub network_in : ℕ → Failed → List ℕ → ℕ → Network
network_in n failed bytes count = network_of n (links_of count bytes) (outage failed)
