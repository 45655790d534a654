-- Lists of records of events: document 01, section "Plan file". A record is four words: probability, set of nodes, links 0 to 63, links 64
-- to 127.
-- Assumes nothing.
use Rattle.std.specs.Prelude.{List, [], ◌∷◌, ℕ, zero, suc, min, ◌*◌, length, get_or, take, drop}
use Rattle.plan.specs.LentLists.{Lent}
use Rattle.plan.specs.declared.Header.{Header}
use Rattle.record_lists.specs.declared.Event.{Event}

-- the words of a list of records
unfoldable pub words_of : List Event → List ℕ
words_of [] = []
words_of (e ∷ es) = e.probability ∷ e.nodes ∷ e.links_low ∷ e.links_high ∷ words_of es

-- events that are lent as records, one for each event
abbrev pub in_records : Header → List ℕ → List Event → Lent
in_records h links events = record { header = h; links = links; words = words_of events; room = length events }

-- the words of the first `count` events that stand in an array of 128
abbrev pub words_used : ℕ → List ℕ → List ℕ
words_used count words = take (4 * min count 128) words

-- the record whose words stand first in a list of words
abbrev pub record_in : List ℕ → Event
record_in words =
    record {
      probability = get_or words 0 0;
      nodes = get_or words 1 0;
      links_low = get_or words 2 0;
      links_high = get_or words 3 0;
    }

-- the first `count` records of a list of words
unfoldable pub records_of : ℕ → List ℕ → List Event
records_of zero words = []
records_of (suc count) words = record_in words ∷ records_of count (drop 4 words)
