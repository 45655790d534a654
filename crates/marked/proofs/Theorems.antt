-- The twelve marked plans: document 01, section "Marked plans".
-- Assumes nothing.
use mathlib.Core.Path.{refl}
use Rattle.mass.specs.Refusal.{first}
use Rattle.sets.specs.Sets.{bit, any_below}
use Rattle.plan.specs.Lists.{link_bytes}
use Rattle.plan.specs.Layout.{little, value, elements, member_bytes, members, member_count, event_bytes, header_bytes, layout}
use Rattle.plan.specs.File.{header_refusal, links_refusal, member_refusal, members_refusal, event_refusal, events_refusal, refusal}
use Rattle.network.specs.Outage.{union_of}
use Rattle.network.specs.Topology.{node_works, link_works, joins, adjacent}
use Rattle.topology.specs.Paths.{via, disconnected}
use Rattle.walk.specs.Ends.{ends}
use Rattle.pairs.specs.Pairs.{row, rows, table}
use Rattle.marked.specs.Marked.{Right, Each, marked}

-- the proofs of the entries, one after the other
infixr 40 ◌and◌
◌and◌ : {A B : Type 0} → A → B → A × B
a and b = (a, b)

-- the theorem: every entry is right
pub marked-right : Each Right marked
unfolding first
    link_bytes little value elements member_bytes members member_count event_bytes header_bytes layout
    header_refusal links_refusal member_refusal members_refusal event_refusal events_refusal refusal
    ends table rows row disconnected via node_works link_works joins adjacent any_below union_of bit
marked-right =
    (refl, refl, refl, refl, refl)
    and (refl, refl, refl, refl, refl)
    and (refl, refl, refl, refl, refl)
    and (refl, refl, refl, refl, refl)
    and (refl, refl, refl, refl, refl)
    and (refl, refl, refl, refl, refl)
    and (refl, refl, refl, refl, refl)
    and (refl, refl, refl, refl, refl)
    and (refl, refl, refl, refl, refl)
    and (refl, refl, refl, refl, refl)
    and (refl, refl)
    and (refl, refl, refl, refl, refl)
    and tt
