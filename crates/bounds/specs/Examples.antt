-- Examples of a network with elements out before the first event, on marked plan 2 of document 01, and of the order of a run with windows.
-- Assumes nothing.
use Rattle.std.specs.Prelude.{◌≡◌, refl, List, [], ◌∷◌, ℕ, length}
use Rattle.mass.specs.Refusal.{first}
use Rattle.mass.specs.Split.{whole}
use Rattle.sets.specs.Sets.{bit, any_below}
use Rattle.plan.specs.Plan.{Plan}
use Rattle.plan.specs.Lists.{links_of, events_of}
use Rattle.plan.specs.LentLists.{link_list_refusal, event_list_refusal, in_words, lists_number}
use Rattle.plan.specs.declared.Header.{Header}
use Rattle.network.specs.Outage.{Outage, intact, union_of}
use Rattle.network.specs.Topology.{node_works, link_works, joins, adjacent}
use Rattle.topology.specs.Paths.{via, disconnected}
use Rattle.walk.specs.Ends.{ends}
use Rattle.sums.specs.Exact.{exact_sum, exact_cut}
use Rattle.pairs.specs.Pairs.{start}
use Rattle.windows.specs.Windows.{windows_of, work_refusal}
use Rattle.bounds.specs.Bounds.{cuts}
use Rattle.bounds.specs.Calls.{bounds_of, run_number, run_at_number}
use Rattle.bounds.specs.declared.PairBounds.{PairBounds}

-- the link 0-1 of two nodes, an event of 1/10 on it, t = 10^17
abbrev plan2 : Plan
plan2 =
    record {
      nodes = 2;
      links = record { low = 0; high = 1 } ∷ [];
      events = record { probability = 100000000; nodes = 0; links = 1 } ∷ [];
      threshold = 100000000000000000;
      cap = 100;
    }

abbrev both_bounds : ℕ → PairBounds
both_bounds mass = record { lower = mass; upper = mass }

abbrev link_out : Outage
link_out = record { nodes = 0; links = 1 }

abbrev node_out : Outage
node_out = record { nodes = 2; links = 0 }

-- with the link out, or a node, the pair is cut off in every scenario
example-bounds : (bounds_of intact plan2 0 1 ≡ both_bounds 100000000000000000) × (bounds_of link_out plan2 0 1 ≡ both_bounds whole)
    × (bounds_of node_out plan2 0 1 ≡ both_bounds whole)
unfolding ends disconnected via node_works link_works joins adjacent any_below union_of bit
example-bounds = (refl, refl, refl)

-- and so it is in every set of events: D is 10^8 and becomes 10^9, the whole
example-exact : (exact_cut plan2 (cuts intact plan2 0 1) ≡ 100000000) × (exact_cut plan2 (cuts link_out plan2 0 1) ≡ 1000000000)
unfolding disconnected via node_works link_works joins adjacent any_below union_of bit exact_sum
example-exact = (refl, refl)

-- its lists; with a cap of 0 in the second case
abbrev header : ℕ → Header
header cap = record { nodes = 2; links = 1; events = 1; threshold = 1; cap = cap }

abbrev number : ℕ → List ℕ → List ℕ → ℕ → ℕ
number cap lower windows minute =
    run_at_number (in_words (header cap) (0 ∷ 1 ∷ []) (100000000 ∷ 0 ∷ 1 ∷ 0 ∷ [])) (length lower) 1 windows minute

-- a window whose end is its start, and a minute past the week: 6 for the cap, 12 for a list of bounds, 21, then 22
example-order : (number 100 (7 ∷ []) (0 ∷ 1 ∷ 0 ∷ 1 ∷ 0 ∷ []) 0 ≡ 0) × (number 0 [] (7 ∷ 7 ∷ 0 ∷ 0 ∷ 0 ∷ []) 10080 ≡ 6)
    × (number 100 [] (7 ∷ 7 ∷ 0 ∷ 0 ∷ 0 ∷ []) 10080 ≡ 12) × (number 100 (7 ∷ []) (7 ∷ 7 ∷ 0 ∷ 0 ∷ 0 ∷ []) 10080 ≡ 21)
    × (number 100 (7 ∷ []) [] 10080 ≡ 22)
unfolding run_at_number run_number lists_number link_list_refusal event_list_refusal links_of events_of work_refusal windows_of first start
example-order = (refl, refl, refl, refl, refl)
