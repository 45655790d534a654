-- What a valid equipment sheet is: document 02, request U2.
-- Assumes nothing.
use Rattle.std.specs.Prelude.{List, [], ◌∷◌, ℕ, ◌^◌, ◌≤◌, ◌<◌, length}
use Rattle.mass.specs.Split.{certain}
use Rattle.sheets.specs.Sheet.{Line, Sheet, unavailability}

-- a valid line: three numbers of 32 bits whose product is at most 10^9, and members below the counts
pub record ValidLine (nodes links : ℕ) (l : Line) : Type 0 where
  pub fit-fits : l.fit < 2 ^ 32
  pub hours-fit : l.hours < 2 ^ 32
  pub extent-fits : l.extent < 2 ^ 32
  pub probable : unavailability l ≤ certain
  pub within : l.nodes < 2 ^ nodes
  pub inside : l.links < 2 ^ links

abbrev pub ValidLines : ℕ → ℕ → List Line → Type 0
ValidLines nodes links [] = Unit {0}
ValidLines nodes links (l ∷ ls) = ValidLine nodes links l × ValidLines nodes links ls

-- a valid sheet: counts in the plan's ranges, at most 128 lines, and every line valid
pub record ValidSheet (s : Sheet) : Type 0 where
  pub some-node : 1 ≤ s.nodes
  pub nodes-fit : s.nodes ≤ 64
  pub links-fit : s.links ≤ 128
  pub lines_fit : length s.lines ≤ 128
  pub each_line : ValidLines s.nodes s.links s.lines
