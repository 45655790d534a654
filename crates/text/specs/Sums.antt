-- The lines of the pairs from the sums in their entries: upper is lower and what was not examined.
-- Assumes nothing.
use Rattle.std.specs.Prelude.{◌≡◌, ℕ, ◌+◌, ◌-◌, ◌^◌, ◌<◌, ◌≤◌, length, get_or}
use mathlib.Core.List.{List, [], ◌∷◌, ◌++◌, flatten}
use Rattle.mass.specs.Split.{whole}
use Rattle.plan.specs.declared.Header.{Header}
use Rattle.pairs.specs.Pairs.{row, rows, place}
use Rattle.bounds.specs.declared.Totals.{Totals}
use Rattle.text.specs.Listing.{line, pairs_text}

-- the sums of at most 64 nodes, each of which fits with `rest` added
pub record Listable (n rest : ℕ) (sums : List ℕ) : Type 0 where
  pub few : n ≤ 64
  pub sized : length sums ≡ 2016
  pub fits : (i : ℕ) → rest + get_or sums i 0 < 2 ^ 64

-- the line of a pair
abbrev pub sum_line : ℕ → ℕ → List ℕ → ℕ → ℕ → List ℕ
sum_line n rest sums v w = line (v ∷ w ∷ get_or sums (place n v w) 0 ∷ (rest + get_or sums (place n v w) 0) ∷ [])

-- the texts of the pairs (v, w), (v, w + 1), .., `some` of them
abbrev pub row_text : (ℕ → ℕ → List ℕ) → ℕ → ℕ → ℕ → List ℕ
row_text f v w some = flatten (row f v w some)

-- the texts of the pairs of `some` nodes from v on, of n nodes
abbrev pub rows_text : (ℕ → ℕ → List ℕ) → ℕ → ℕ → ℕ → List ℕ
rows_text f n v some = flatten (rows f n v some)

-- the first line
abbrev pub head_line : Header → Totals → List ℕ
head_line h t = line (h.nodes ∷ h.links ∷ h.events ∷ t.count ∷ t.complete ∷ t.mass ∷ [])

-- the listing of a plan
unfoldable pub sums_text : Header → Totals → List ℕ → List ℕ
sums_text h t sums = head_line h t ++ pairs_text (sum_line h.nodes (whole - t.mass) sums) h.nodes
