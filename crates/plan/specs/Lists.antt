-- Lent lists: document 01, section "Plan file". Links are handed over as bytes, two for each link as in the file; events as words, four to
-- an event: probability, set of nodes, links 0 to 63, links 64 to 127.
-- Assumes nothing.
use Rattle.std.specs.Prelude.{List, [], ◌∷◌, ℕ, zero, suc, ◌/◌, ◌%◌, ◌^◌, get_or, drop}
use Rattle.sets.specs.Sets.{joined}
use Rattle.plan.specs.Plan.{Link, Event}

-- the first `count` links of a list of bytes
unfoldable pub links_of : ℕ → List ℕ → List Link
links_of zero bytes = []
links_of (suc count) bytes = record { low = get_or bytes 0 0; high = get_or bytes 1 0 } ∷ links_of count (drop 2 bytes)

-- the event that four words stand for
abbrev pub event_of : ℕ → ℕ → ℕ → ℕ → Event
event_of probability nodes low high = record { probability = probability; nodes = nodes; links = joined low high }

-- the first `count` events of a list of words
unfoldable pub events_of : ℕ → List ℕ → List Event
events_of zero words = []
events_of (suc count) words =
    record { probability = get_or words 0 0; nodes = get_or words 1 0; links = joined (get_or words 2 0) (get_or words 3 0) }
    ∷ events_of count (drop 4 words)

-- the bytes of a list of links
unfoldable pub link_bytes : List Link → List ℕ
link_bytes [] = []
link_bytes (l ∷ ls) = l.low ∷ l.high ∷ link_bytes ls

-- the words of a list of events
unfoldable pub event_words : List Event → List ℕ
event_words [] = []
event_words (e ∷ es) = e.probability ∷ e.nodes ∷ e.links % 2 ^ 64 ∷ e.links / 2 ^ 64 ∷ event_words es
