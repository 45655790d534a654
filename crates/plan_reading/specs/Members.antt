-- The members of an event as they are put into sets, one by one: document 01, section "Plan file", "Element i is bit i of a set, of value
-- 2^i."
-- Assumes nothing.
use Rattle.std.specs.Prelude.{ℕ, ◌^◌, ◌<◌}
use Rattle.plan.specs.declared.Element.{Element}
use Rattle.plan.specs.declared.Element.TheVariants.{Node, Link}

-- what an element adds to the set of nodes, and to the set of links
abbrev pub node_value : Element → ℕ
node_value (Node i) = 2 ^ i
node_value (Link i) = 0

abbrev pub link_value : Element → ℕ
link_value (Node i) = 0
link_value (Link i) = 2 ^ i

-- an element that its set has room for, and that is above all that the set holds
abbrev pub Above : Element → ℕ → ℕ → Type 0
Above (Node i) nodes links = (i < 64) × (nodes < 2 ^ i)
Above (Link i) nodes links = (i < 128) × (links < 2 ^ i)
