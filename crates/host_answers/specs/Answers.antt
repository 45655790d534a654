-- The values that an export hands out for an answer. Where the answer is a refusal, 0 stands in place of each (`Laid`).
-- Assumes nothing.
use Rattle.std.specs.Prelude.{List, [], ◌∷◌, ℕ}
use Rattle.plan.specs.declared.Header.{Header}
use Rattle.bounds.specs.declared.Totals.{Totals}
use Rattle.bounds.specs.declared.PairBounds.{PairBounds}

-- the header of five numbers
abbrev pub header_with : ℕ → ℕ → ℕ → ℕ → ℕ → Header
header_with nodes links events threshold cap =
    record { nodes = nodes; links = links; events = events; threshold = threshold; cap = cap }

-- a plan that is read: its five numbers
abbrev pub header_values : Header → List ℕ
header_values h = h.nodes ∷ h.links ∷ h.events ∷ h.threshold ∷ h.cap ∷ []

-- a plan that is written: the size of the file
abbrev pub size_values : ℕ → List ℕ
size_values count = count ∷ []

-- a run: the examined count, complete and E
abbrev pub totals_values : Totals → List ℕ
totals_values t = t.count ∷ t.complete ∷ t.mass ∷ []

-- a pair: its lower and its upper bound
abbrev pub bounds_values : PairBounds → List ℕ
bounds_values b = b.lower ∷ b.upper ∷ []
