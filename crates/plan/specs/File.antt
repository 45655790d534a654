-- What is refused of a list of bytes, in the order of document 01 ("Refused", "Order"), and the plan that an accepted list stands for.
-- Each refusal is a number, on the bytes still to be read.
-- Assumes nothing.
use Rattle.std.specs.Prelude.{cond, List, [], ◌∷◌, ℕ, zero, suc, ◌+◌, ◌*◌, ◌^◌, eqb, length, get_or, take, drop}
use Rattle.mass.specs.Refusal.{first}
use Rattle.mass.specs.Split.{certain, probability_test}
use Rattle.plan.specs.Plan.{Plan, Event}
use Rattle.plan.specs.Lists.{links_of}
use Rattle.plan.specs.Layout.{value}
use Rattle.refusals.specs.Tests.{short_test, mark_test, version_test, counts_test, threshold_test, cap_test, ends_test, order_test, member_test}
use Rattle.refusals.specs.Tests.{rank, left_test}

-- the fields of the header: the version, the counts of nodes, links and events, the threshold and the cap
abbrev pub version_in : List ℕ → ℕ
version_in b = value (take 2 (drop 3 b))

abbrev pub nodes_in : List ℕ → ℕ
nodes_in b = get_or b 5 0

abbrev pub links_in : List ℕ → ℕ
links_in b = get_or b 6 0

abbrev pub events_in : List ℕ → ℕ
events_in b = get_or b 7 0

abbrev pub threshold_in : List ℕ → ℕ
threshold_in b = value (take 8 (drop 8 b))

abbrev pub cap_in : List ℕ → ℕ
cap_in b = value (take 4 (drop 16 b))

-- "1 for the header, then 2 to 6"
unfoldable pub header_refusal : List ℕ → ℕ
header_refusal b =
    first
    (short_test (length b) 20
    ∷ mark_test 82 83 71 (get_or b 0 0) (get_or b 1 0) (get_or b 2 0)
    ∷ version_test (version_in b)
    ∷ counts_test (nodes_in b) (links_in b) (events_in b)
    ∷ threshold_test (threshold_in b)
    ∷ cap_test (cap_in b)
    ∷ [])

-- "each link, 1 then 7"
unfoldable pub links_refusal : ℕ → ℕ → List ℕ → ℕ
links_refusal nodes zero b = 0
links_refusal nodes (suc count) b =
    first
    (short_test (length b) 2
    ∷ ends_test nodes (get_or b 0 0) (get_or b 1 0)
    ∷ links_refusal nodes count (drop 2 b)
    ∷ [])

-- "each member, 1 then 10", where a member's rank is at least `least`
unfoldable pub member_refusal : ℕ → ℕ → ℕ → List ℕ → ℕ
member_refusal nodes links least b =
    first (short_test (length b) 2 ∷ member_test nodes links least (get_or b 0 0) (get_or b 1 0) ∷ [])

-- the next member's rank is above this one's
unfoldable pub members_refusal : ℕ → ℕ → ℕ → ℕ → List ℕ → ℕ
members_refusal nodes links least zero b = 0
members_refusal nodes links least (suc count) b =
    first
    (member_refusal nodes links least b
    ∷ members_refusal nodes links (rank (get_or b 0 0) (get_or b 1 0) + 1) count (drop 2 b)
    ∷ [])

-- an event's probability, its number of members k, and the bytes that it takes
abbrev pub probability_in : List ℕ → ℕ
probability_in b = value (take 4 b)

abbrev pub members_in : List ℕ → ℕ
members_in b = get_or b 4 0

abbrev pub event_size : List ℕ → ℕ
event_size b = 5 + 2 * members_in b

-- "each event, 1, 8, 9, then each member"; `before` is the probability of the event before, or 10^9
unfoldable pub event_refusal : ℕ → ℕ → ℕ → List ℕ → ℕ
event_refusal nodes links before b =
    first
    (short_test (length b) 5
    ∷ probability_test (probability_in b)
    ∷ order_test before (probability_in b)
    ∷ members_refusal nodes links 0 (members_in b) (drop 5 b)
    ∷ [])

-- all events, "then 11" where no event is left
unfoldable pub events_refusal : ℕ → ℕ → ℕ → ℕ → List ℕ → ℕ
events_refusal nodes links before zero b = left_test (length b)
events_refusal nodes links before (suc count) b =
    first
    (event_refusal nodes links before b
    ∷ events_refusal nodes links (probability_in b) count (drop (event_size b) b)
    ∷ [])

-- the number with which a list of bytes is refused, and 0 where it is accepted
unfoldable pub refusal : List ℕ → ℕ
refusal b =
    first
    (header_refusal b
    ∷ links_refusal (nodes_in b) (links_in b) (drop 20 b)
    ∷ events_refusal (nodes_in b) (links_in b) certain (events_in b) (drop (20 + 2 * links_in b) b)
    ∷ [])

-- the set that `count` members of one kind name: element i is of value 2^i
unfoldable pub set_of : ℕ → ℕ → List ℕ → ℕ
set_of kind zero b = 0
set_of kind (suc count) b = cond (eqb (get_or b 0 0) kind) (2 ^ get_or b 1 0) 0 + set_of kind count (drop 2 b)

-- an event that bytes stand for
abbrev pub event_in : List ℕ → Event
event_in b =
    record {
      probability = probability_in b;
      nodes = set_of 0 (members_in b) (drop 5 b);
      links = set_of 1 (members_in b) (drop 5 b);
    }

unfoldable pub events_at : ℕ → List ℕ → List Event
events_at zero b = []
events_at (suc count) b = event_in b ∷ events_at count (drop (event_size b) b)

-- the plan that a list of bytes stands for
unfoldable pub plan_of : List ℕ → Plan
plan_of b =
    record {
      nodes = nodes_in b;
      links = links_of (links_in b) (drop 20 b);
      events = events_at (events_in b) (drop (20 + 2 * links_in b) b);
      threshold = threshold_in b;
      cap = cap_in b;
    }
