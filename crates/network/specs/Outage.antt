-- What has failed in a scenario: document 01, section "Effective topology".
-- Assumes nothing.
use Rattle.std.specs.Prelude.{cond, List, [], ◌∷◌, ℕ, ◌/◌, get_or}
use Rattle.std.specs.Int.Bits.{bit_or}
use Rattle.sets.specs.Sets.{bit}
use Rattle.plan.specs.Plan.{Event}

-- the failed nodes and the failed links. `out` beside a plan is everywhere what is out before the first event (document 02, request U7);
-- where nothing is, it is `intact`
pub record Outage : Type 0 where
  pub nodes : ℕ
  pub links : ℕ

-- nothing has failed
abbrev pub intact : Outage
intact = record { nodes = 0; links = 0 }

-- what has failed in either of two
abbrev pub beside : Outage → Outage → Outage
beside out more = record { nodes = bit_or out.nodes more.nodes; links = bit_or out.links more.links }

-- the union of a starting set and of one part (nodes or links) of each failing event: event i fails where i is an element of `failing`
unfoldable pub union_of : (Event → ℕ) → ℕ → List Event → ℕ → ℕ
union_of part start [] failing = start
union_of part start (e ∷ es) failing = union_of part (cond (bit failing 0) (bit_or start (part e)) start) es (failing / 2)

-- one event's nodes and links beside what has failed
abbrev pub with_event : Outage → Event → Outage
with_event out e = beside out (record { nodes = e.nodes; links = e.links })

-- event i of a list
abbrev pub event_at : List Event → ℕ → Event
event_at events i = get_or events i (record { probability = 0; nodes = 0; links = 0 })

-- the nodes and the links that the failing events name, beside those that had failed at the start
abbrev pub outage_of : Outage → List Event → ℕ → Outage
outage_of start events failing = record {
  nodes = union_of (λ e. e.nodes) start.nodes events failing;
  links = union_of (λ e. e.links) start.links events failing;
}
