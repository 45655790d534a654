-- Computed examples of the witness, the figure and the downtime, on marked plans of document 01 and one like them.
-- Assumes nothing.
use Rattle.std.specs.Prelude.{◌≡◌, refl, true, false, [], ◌∷◌, ℕ, ◌*◌, Some, None}
use Rattle.sets.specs.Sets.{bit, any_below}
use Rattle.mass.specs.Refusal.{first}
use Rattle.plan.specs.Plan.{Plan}
use Rattle.plan.specs.LentLists.{plan_refusal, link_list_refusal, event_list_refusal, in_words, lists_number}
use Rattle.plan.specs.Lists.{links_of, events_of}
use Rattle.bounds.specs.Calls.{pair_number}
use Rattle.network.specs.Outage.{intact, union_of}
use Rattle.network.specs.Topology.{node_works, link_works, joins, adjacent}
use Rattle.topology.specs.Paths.{via, disconnected}
use Rattle.walk.specs.Ends.{ends}
use Rattle.walk.specs.Walk.{examined}
use Rattle.sums.specs.Exact.{scale, exact_sum, exact_cut}
use Rattle.bounds.specs.Bounds.{cuts, lower_of, upper_of}
use Rattle.readings.specs.Downtime.{year, seconds_of}
use Rattle.readings.specs.Witness.{some, first_where, none_test, first_cut, failing_of}
use Rattle.readings.specs.Figure.{figure_of, shares_of, float_of}
use Rattle.std.specs.Float.{binary64}
use Rattle.std.specs.Float.Ieee.{add, mul, div, of_int, to_bits}
use Rattle.mass.specs.Split.{whole}

-- two nodes, the link 0-1, and an event of probability q on it
abbrev pub line : ℕ → ℕ → ℕ → Plan
line q t cap =
    record {
      nodes = 2;
      links = record { low = 0; high = 1 } ∷ [];
      events = record { probability = q; nodes = 0; links = 1 } ∷ [];
      threshold = t;
      cap = cap;
    }

abbrev no_witness : Plan → ℕ
no_witness p = none_test intact p 0 1 (examined p)

-- marked plan 2 has a witness; 14 is given for 3 (dropped), 4 (past the cap) and 9 (nothing examined)
example-none : (no_witness (line 100000000 100000000000000000 100) ≡ 0) × (no_witness (line 100000000 100000000000000001 100) ≡ 14)
    × (no_witness (line 100000000 1 1) ≡ 14) × (no_witness (line 500000000 1000000000000000000 100) ≡ 14)
unfolding ends disconnected via node_works link_works joins adjacent any_below union_of bit some
example-none = (refl, refl, refl, refl)

-- the witness of marked plan 2 is event 0 alone, the set of value 1
example-shown : failing_of (first_cut intact (line 100000000 100000000000000000 100) 0 1) ≡ record { low = 1; high = 0 }
unfolding ends disconnected via node_works link_works joins adjacent any_below union_of bit first_where
example-shown = refl

-- two events on the link 0-1, of 1/2 and 1/10. The walk has four ends: nothing fails (nothing is cut), event 1 alone (1/20), event 0 alone
-- (9/20), both (1/20).
abbrev twice : ℕ → Plan
twice t =
    record {
      nodes = 2;
      links = record { low = 0; high = 1 } ∷ [];
      events = record { probability = 500000000; nodes = 0; links = 1 } ∷ record { probability = 100000000; nodes = 0; links = 1 } ∷ [];
      threshold = t;
      cap = 100;
    }

-- its witness is the first, event 1 alone, and not the likeliest, event 0 alone; where a threshold of 1/10 drops the first, it is the next
example-first : (first_cut intact (twice 1) 0 1 ≡ false ∷ true ∷ []) × (first_cut intact (twice 100000000000000000) 0 1 ≡ true ∷ false ∷ [])
unfolding ends disconnected via node_works link_works joins adjacent any_below union_of bit first_where
example-first = (refl, refl)

-- marked plan 9 has no figure; marked plan 2 has that of 10^17 and 10^18
example-figure : (figure_of intact (line 500000000 1000000000000000000 100) 0 1 ≡ None)
    × (figure_of intact (line 100000000 100000000000000000 100) 0 1 ≡ Some (shares_of 100000000000000000 1000000000000000000))
unfolding ends disconnected via node_works link_works joins adjacent any_below union_of bit
example-figure = (refl, refl)

-- and the call for a pair of plan 9 that is no pair is refused
example-refused : pair_number (in_words (record { nodes = 2; links = 1; events = 1; threshold = 1000000000000000000; cap = 100 }) (0 ∷ 1 ∷ []) (500000000 ∷ 0 ∷ 1 ∷ 0 ∷ [])) 1 1 ≡ 13
unfolding pair_number lists_number link_list_refusal event_list_refusal links_of events_of first
example-refused = refl

-- examples: a tenth of one whole, examined whole; and a lower bound of 0 of a single unit examined
example-tenth : (to_bits binary64 (shares_of 100000000000000000 whole).disconnected ≡ 0x3fb999999999999a)
    × (to_bits binary64 (shares_of 100000000000000000 whole).examined ≡ 0x3ff0000000000000)
unfolding float_of add mul div of_int to_bits
example-tenth = (refl, refl)

example-least : (to_bits binary64 (shares_of 0 1).disconnected ≡ 0) × (to_bits binary64 (shares_of 0 1).examined ≡ 0x3c32725dd1d243ac)
unfolding float_of add mul div of_int to_bits
example-least = (refl, refl)

-- a link that fails with 10^-9 is a risk of 0.03 seconds a year: its plan meets no refusal, D is 1 and counts units of 10^-9, and the exact
-- downtime lies between 0 and 1 seconds (0 × 10^9 ≤ 31,536,000 ≤ 1 × 10^9)
example-live : (plan_refusal (line 1 1 100) ≡ 0)
    × (seconds_of (lower_of intact (line 1 1 100) 0 1) (upper_of intact (line 1 1 100) 0 1) ≡ record { lower = 0; upper = 1 })
    × (exact_cut (line 1 1 100) (cuts intact (line 1 1 100) 0 1) * year ≡ 31536000) × (scale 1 ≡ 1000000000)
unfolding plan_refusal link_list_refusal event_list_refusal first
    ends disconnected via node_works link_works joins adjacent any_below union_of bit exact_sum scale
example-live = (refl, refl, refl, refl)
