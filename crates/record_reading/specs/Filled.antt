-- The records that a reading hands over: document 01, section "Plan file". A plan has a set of links as one number, a record as two words.
-- Assumes nothing.
use Rattle.std.specs.Prelude.{List, [], ◌∷◌, ℕ, zero, suc, ◌/◌, ◌%◌, ◌^◌, length}
use Rattle.std.proofs.lemmas.List.Edits.{sets}
use Rattle.plan.specs.Plan as plan
use Rattle.plan.specs.Calls.{read_number}
use Rattle.record_lists.specs.declared.Event.{Event}

-- the record of an event of a plan, and those of a list of events
abbrev pub record_of : plan.Event → Event
record_of e =
    record {
      probability = e.probability;
      nodes = e.nodes;
      links_low = e.links % 2 ^ 64;
      links_high = e.links / 2 ^ 64;
    }

unfoldable pub event_records : List plan.Event → List Event
event_records [] = []
event_records (e ∷ es) = record_of e ∷ event_records es

-- the number with which reading into a lent list of records is refused: a record holds an event
abbrev pub records_number : List ℕ → List ℕ → List Event → ℕ
records_number s links events = read_number (length links) (length events) s

-- what a call leaves in a lent list of records: with number 0 the records laid down from the start, else the list as it was
abbrev pub filled_records : ℕ → List Event → List Event → List Event
filled_records zero news list = sets list 0 news
filled_records (suc number) news list = list
