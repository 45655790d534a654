-- What is refused of a plan's numbers and of lent lists, in the writer's order (document 01, "Refused", "Order").
-- Assumes nothing.
use Rattle.std.specs.Prelude.{List, [], ◌∷◌, ℕ, ◌*◌, ◌/◌, length}
use Rattle.mass.specs.Refusal.{first, each}
use Rattle.mass.specs.Split.{certain, probability_test}
use Rattle.plan.specs.Plan.{Plan, Link, Event}
use Rattle.plan.specs.Lists.{links_of, events_of}
use Rattle.refusals.specs.Tests.{counts_test, threshold_test, cap_test, ends_test, order_test, sets_test, room_test}
use Rattle.plan.specs.declared.Header.{Header}

-- "each link, 7"
unfoldable pub link_list_refusal : ℕ → List Link → ℕ
link_list_refusal nodes list = each (λ l. ends_test nodes l.low l.high) list

-- "each event, 8, 9, 10"; `before` is the probability of the event before, or 10^9
unfoldable pub event_list_refusal : ℕ → ℕ → ℕ → List Event → ℕ
event_list_refusal nodes links before [] = 0
event_list_refusal nodes links before (e ∷ es) =
    first
    (probability_test e.probability
    ∷ order_test before e.probability
    ∷ sets_test nodes links e.nodes e.links
    ∷ event_list_refusal nodes links e.probability es
    ∷ [])

-- the number with which a plan is refused; a plan with 0 is valid
unfoldable pub plan_refusal : Plan → ℕ
plan_refusal p =
    first
    (counts_test p.nodes (length p.links) (length p.events)
    ∷ threshold_test p.threshold
    ∷ cap_test p.cap
    ∷ link_list_refusal p.nodes p.links
    ∷ event_list_refusal p.nodes (length p.links) certain p.events
    ∷ [])

-- the plan that a header and lent lists denote: entries past the counts are not used
unfoldable pub plan_of_lists : Header → List ℕ → List ℕ → Plan
plan_of_lists h links words =
    record {
      nodes = h.nodes;
      links = links_of h.links links;
      events = events_of h.events words;
      threshold = h.threshold;
      cap = h.cap;
    }

-- what is lent to a call: the header, the bytes of the links, the words of the events, and how many whole events there is room for
pub record Lent : Type 0 where
  pub header : Header
  pub links : List ℕ
  pub words : List ℕ
  pub room : ℕ

-- events that are lent as words, four for each event
abbrev pub in_words : Header → List ℕ → List ℕ → Lent
in_words h links words = record { header = h; links = links; words = words; room = length words / 4 }

-- the plan that is lent
abbrev pub plan_lent : Lent → Plan
plan_lent l = plan_of_lists l.header l.links l.words

-- "The writer tests 4 to 6; then 12 for a link list shorter than twice its count or an event list shorter than its count; each link, 7;
-- each event, 8, 9, 10": the number with which what is lent is refused; 0 where it is accepted
unfoldable pub lists_number : Lent → ℕ
lists_number l =
    first
    (counts_test l.header.nodes l.header.links l.header.events
    ∷ threshold_test l.header.threshold
    ∷ cap_test l.header.cap
    ∷ room_test (length l.links) (2 * l.header.links)
    ∷ room_test l.room l.header.events
    ∷ link_list_refusal l.header.nodes (links_of l.header.links l.links)
    ∷ event_list_refusal l.header.nodes l.header.links certain (events_of l.header.events l.words)
    ∷ [])
