-- What the calls of the crate `bounds` answer, for every input.
-- Assumes nothing.
use Rattle.std.specs.Prelude.{List, [], ◌∷◌, ℕ}
use Rattle.mass.specs.Refusal.{first}
use Rattle.plan.specs.Plan.{Plan}
use Rattle.refusals.specs.Tests.{room_test}
use Rattle.plan.specs.LentLists.{Lent, lists_number}
use Rattle.network.specs.Outage.{Outage}
use Rattle.walk.specs.Walk.{count, complete, mass_examined}
use Rattle.pairs.specs.Pairs.{pair_count, pair_test}
use Rattle.windows.specs.Windows.{work_refusal}
use Rattle.bounds.specs.Bounds.{lower_of, upper_of}
use Rattle.bounds.specs.declared.Totals.{Totals}
use Rattle.bounds.specs.declared.PairBounds.{PairBounds}

-- the run: the lists' tests, then 12 for the two lists of bounds
unfoldable pub run_number : Lent → ℕ → ℕ → ℕ
run_number l lower_room upper_room =
    first
    (lists_number l
    ∷ room_test lower_room (pair_count l.header.nodes)
    ∷ room_test upper_room (pair_count l.header.nodes)
    ∷ [])

-- the run with windows: as the run, then 12 for words that make no whole window, each window 21, then 22 for the minute
unfoldable pub run_at_number : Lent → ℕ → ℕ → List ℕ → ℕ → ℕ
run_at_number l lower_room upper_room windows minute =
    first (run_number l lower_room upper_room ∷ work_refusal l.header.nodes l.header.links windows minute ∷ [])

-- the examined count, complete and E of a plan; no outage moves them
abbrev pub totals_of : Plan → Totals
totals_of p = record { count = count p; complete = complete p; mass = mass_examined p }

-- the bounds of one pair: the lists' tests, then 13
unfoldable pub pair_number : Lent → ℕ → ℕ → ℕ
pair_number l v w = first (lists_number l ∷ pair_test l.header.nodes v w ∷ [])

-- the two bounds of the pair (v, w)
abbrev pub bounds_of : Outage → Plan → ℕ → ℕ → PairBounds
bounds_of out p v w = record { lower = lower_of out p v w; upper = upper_of out p v w }
