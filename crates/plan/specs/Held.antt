-- What lists that no test refuses hold: what every later function asks of the arrays that they were taken into.
-- Assumes nothing.
use Rattle.std.specs.Prelude.{List, [], ◌∷◌, ℕ, ◌<◌, ◌≤◌, length}
use Rattle.mass.specs.Split.{certain}
use Rattle.plan.specs.Plan.{Link, Event, link_at}
use Rattle.plan.specs.Lists.{links_of, events_of}
use Rattle.plan.specs.declared.Header.{Header}

-- both ends of each link are nodes
abbrev pub EndsBelow : ℕ → List Link → Type 0
EndsBelow nodes links = (i : ℕ) → i < length links → ((link_at links i).low < nodes) × ((link_at links i).high < nodes)

-- the counts are within a plan's, and both ends of each of the first `count` links of a list of bytes are nodes
pub record LinksHeld (n : ℕ) (bytes : List ℕ) (count : ℕ) : Type 0 where
  pub nodes-fit : n ≤ 64
  pub links-fit : count ≤ 128
  pub ends-below : EndsBelow n (links_of count bytes)

-- every event's probability is at most 1
abbrev pub Probabilities : List Event → Type 0
Probabilities [] = Unit {0}
Probabilities (e ∷ events) = (e.probability ≤ certain) × Probabilities events

-- each event's probability is at most that of the event before it, and the first one's is at most q
abbrev pub Falling : ℕ → List Event → Type 0
Falling q [] = Unit {0}
Falling q (e ∷ events) = (e.probability ≤ q) × Falling e.probability events

-- the lists are those of a valid plan: its links are held, its events are few, and their probabilities are at most 1 and never rise
pub record Held (h : Header) (links words : List ℕ) : Type 0 where
  pub links-held : LinksHeld h.nodes links h.links
  pub events-fit : h.events ≤ 128
  pub falling : Falling certain (events_of h.events words)
