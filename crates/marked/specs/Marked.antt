-- The twelve marked plans of document 01, section "Marked plans", in one list. The theorem about them stands in `proofs/Theorems.antt`.
-- Assumes nothing.
use Rattle.std.specs.Prelude.{◌≡◌, Bool, true, false, List, [], ◌∷◌, ℕ, Option, Some, None}
use Rattle.mass.specs.Split.{units, split_refusal, both_parts}
use Rattle.sets.specs.Sets.{digit}
use Rattle.plan.specs.Plan.{Plan, Link, Event}
use Rattle.plan.specs.Layout.{layout}
use Rattle.plan.specs.File.{refusal}
use Rattle.network.specs.Outage.{Outage, intact}
use Rattle.pairs.specs.Pairs.{table}
use Rattle.bounds.specs.Bounds.{lower_list, upper_list}
use Rattle.bounds.specs.Calls.{totals_of}
use Rattle.readings.specs.Figure.{figure_of}
use Rattle.readings.specs.declared.Shares.{Shares}

-- a marked plan, with what the run gives for it: the examined count, complete, E (`mass`) and the bounds of its pairs, in order; and for
-- each pair, in the same order, whether it has a figure: 1 if it has one, else 0
pub record MarkedPlan : Type 0 where
  pub plan : Plan
  pub examined : ℕ
  pub complete : ℕ
  pub mass : ℕ
  pub lowers : List ℕ
  pub uppers : List ℕ
  pub figures : List ℕ

-- a marked split: a mass, an event's probability q, and the parts that go to "fails" and to "works"
pub record MarkedSplit : Type 0 where
  pub mass : ℕ
  pub q : ℕ
  pub fails : ℕ
  pub works : ℕ

-- an entry of the list: a plan with its figures, or a split with its parts
pub data MarkedEntry : Type 0 where
  planned : MarkedPlan → MarkedEntry
  parted : MarkedSplit → MarkedEntry

-- whether there is a figure
abbrev pub has_figure : Option Shares → Bool
has_figure None = false
has_figure (Some shares) = true

-- for each pair of a plan, in order: 1 if the call that is not refused gives it a figure, else 0
abbrev pub figure_list : Outage → Plan → List ℕ
figure_list out p = table (λ v w. digit (has_figure (figure_of out p v w))) p.nodes

-- what is said of an entry, by the definitions that the contracts cite. Of a plan: its file meets no refusal (`plan::check`); the run's
-- count, complete and E, and its two lists of bounds, are those of the entry (`bounds::run`); and so is which pairs have a figure
-- (`readings::figure`). Of a split: no test refuses it, and its parts are the two of the entry (`Mass::split`).
abbrev pub Right : MarkedEntry → Type 0
Right (planned m) =
    (refusal (layout m.plan) ≡ 0)
    × (totals_of m.plan ≡ record { count = m.examined; complete = m.complete; mass = m.mass })
    × (lower_list intact m.plan ≡ m.lowers)
    × (upper_list intact m.plan ≡ m.uppers)
    × (figure_list intact m.plan ≡ m.figures)
Right (parted m) =
    (split_refusal m.mass m.q ≡ 0)
    × (both_parts m.mass m.q ≡ record { fails = units m.fails; works = units m.works })

-- a property of every entry of a list
abbrev pub Each : (MarkedEntry → Type 0) → List MarkedEntry → Type 0
Each P [] = Unit {0}
Each P (entry ∷ entries) = P entry × Each P entries

-- "N = 2 and one link 0-1, t = 1, cap = 100, unless said": plans of two nodes, by links, events, t and cap
abbrev two : List Link → List Event → ℕ → ℕ → Plan
two links events t cap = record { nodes = 2; links = links; events = events; threshold = t; cap = cap }

-- the link 0-1, and an event of probability q on a set of links
abbrev line : Link
line = record { low = 0; high = 1 }

abbrev on : ℕ → ℕ → Event
on links q = record { probability = q; nodes = 0; links = links }

-- "e" is an event on the link with q = 10^8
abbrev e : Event
e = on 1 100000000

-- the triangle: links 0-1, 0-2, 1-2, one event with q = 1 for each link, t = 1, cap = 100
abbrev triangle : Plan
triangle =
    record {
      nodes = 3;
      links = record { low = 0; high = 1 } ∷ record { low = 0; high = 2 } ∷ record { low = 1; high = 2 } ∷ [];
      events = on 1 1 ∷ on 2 1 ∷ on 4 1 ∷ [];
      threshold = 1;
      cap = 100;
    }

-- 1. "No link, no event, t = 10^18: examined 1, bounds 10^18 and 10^18."
abbrev pub number1 : MarkedEntry
number1 = planned (record {
  plan = two [] [] 1000000000000000000 100;
  examined = 1;
  complete = 1;
  mass = 1000000000000000000;
  lowers = 1000000000000000000 ∷ [];
  uppers = 1000000000000000000 ∷ [];
  figures = 1 ∷ [];
})

-- 2. "e, t = 10^17: examined 2, both bounds 10^17."
abbrev pub number2 : MarkedEntry
number2 = planned (record {
  plan = two (line ∷ []) (e ∷ []) 100000000000000000 100;
  examined = 2;
  complete = 1;
  mass = 1000000000000000000;
  lowers = 100000000000000000 ∷ [];
  uppers = 100000000000000000 ∷ [];
  figures = 1 ∷ [];
})

-- 3. "e, t = 10^17 + 1: examined 1, bounds 0 and 10^17."
abbrev pub number3 : MarkedEntry
number3 = planned (record {
  plan = two (line ∷ []) (e ∷ []) 100000000000000001 100;
  examined = 1;
  complete = 1;
  mass = 900000000000000000;
  lowers = 0 ∷ [];
  uppers = 100000000000000000 ∷ [];
  figures = 1 ∷ [];
})

-- 4. "e, cap 1: examined 1, complete 0, bounds 0 and 10^17."
abbrev pub number4 : MarkedEntry
number4 = planned (record {
  plan = two (line ∷ []) (e ∷ []) 1 1;
  examined = 1;
  complete = 0;
  mass = 900000000000000000;
  lowers = 0 ∷ [];
  uppers = 100000000000000000 ∷ [];
  figures = 1 ∷ [];
})

-- 5. "Two parallel links, one event on both, q = 10^8: both bounds 10^17."
abbrev pub number5 : MarkedEntry
number5 = planned (record {
  plan = two (line ∷ line ∷ []) (on 3 100000000 ∷ []) 1 100;
  examined = 2;
  complete = 1;
  mass = 1000000000000000000;
  lowers = 100000000000000000 ∷ [];
  uppers = 100000000000000000 ∷ [];
  figures = 1 ∷ [];
})

-- 6. "The same links, an event each, q = 10^8: both bounds 10^16."
abbrev pub number6 : MarkedEntry
number6 = planned (record {
  plan = two (line ∷ line ∷ []) (on 1 100000000 ∷ on 2 100000000 ∷ []) 1 100;
  examined = 4;
  complete = 1;
  mass = 1000000000000000000;
  lowers = 10000000000000000 ∷ [];
  uppers = 10000000000000000 ∷ [];
  figures = 1 ∷ [];
})

-- 7. "An event without members, q = 10^8: both bounds 0."
abbrev pub number7 : MarkedEntry
number7 = planned (record {
  plan = two (line ∷ []) (on 0 100000000 ∷ []) 1 100;
  examined = 2;
  complete = 1;
  mass = 1000000000000000000;
  lowers = 0 ∷ [];
  uppers = 0 ∷ [];
  figures = 1 ∷ [];
})

-- 8. "Node 0 fails, q = 10^9, t = 10^18: examined 1, both bounds 10^18."
abbrev pub number8 : MarkedEntry
number8 = planned (record {
  plan = two (line ∷ []) (record { probability = 1000000000; nodes = 1; links = 0 } ∷ []) 1000000000000000000 100;
  examined = 1;
  complete = 1;
  mass = 1000000000000000000;
  lowers = 1000000000000000000 ∷ [];
  uppers = 1000000000000000000 ∷ [];
  figures = 1 ∷ [];
})

-- 9. "e with q = 5 × 10^8, t = 10^18: examined 0, bounds 0 and 10^18, no figure."
abbrev pub number9 : MarkedEntry
number9 = planned (record {
  plan = two (line ∷ []) (on 1 500000000 ∷ []) 1000000000000000000 100;
  examined = 0;
  complete = 1;
  mass = 0;
  lowers = 0 ∷ [];
  uppers = 1000000000000000000 ∷ [];
  figures = 0 ∷ [];
})

-- 10. "N = 1, no link, no event: no pairs."
abbrev pub number10 : MarkedEntry
number10 = planned (record {
  plan = record { nodes = 1; links = []; events = []; threshold = 1; cap = 100 };
  examined = 1;
  complete = 1;
  mass = 1000000000000000000;
  lowers = [];
  uppers = [];
  figures = [];
})

-- 11. "Mass 1 split at q = 1: 0 and 0."
abbrev pub number11 : MarkedEntry
number11 = parted (record { mass = 1; q = 1; fails = 0; works = 0 })

-- 12. "The triangle above."
abbrev pub number12 : MarkedEntry
number12 = planned (record {
  plan = triangle;
  examined = 4;
  complete = 1;
  mass = 999999999999999996;
  lowers = 0 ∷ 0 ∷ 0 ∷ [];
  uppers = 4 ∷ 4 ∷ 4 ∷ [];
  figures = 1 ∷ 1 ∷ 1 ∷ [];
})

-- the twelve, in document 01's order
abbrev pub marked : List MarkedEntry
marked =
    number1
    ∷ number2
    ∷ number3
    ∷ number4
    ∷ number5
    ∷ number6
    ∷ number7
    ∷ number8
    ∷ number9
    ∷ number10
    ∷ number11
    ∷ number12
    ∷ []
