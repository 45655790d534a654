-- The values that the exports of reading a sheet hand out: its counts of nodes, links and lines.
-- Assumes nothing.
use Rattle.std.specs.Prelude.{List, [], ◌∷◌, ℕ}
use Rattle.sheets.specs.declared.Counts.{Counts}

abbrev pub counts_values : Counts → List ℕ
counts_values counts = counts.nodes ∷ counts.links ∷ counts.lines ∷ []
