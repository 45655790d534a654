-- What the calls of the crate `sheets` answer, for every input.
-- Assumes nothing.
use Rattle.std.specs.Prelude.{List, [], ◌∷◌, ℕ, ◌/◌, length, Result, Ok, Err}
use Rattle.mass.specs.Refusal.{first}
use Rattle.mass.specs.declared.refusal.Refusal.{Refusal}
use Rattle.refusals.specs.Tests.{room_test}
use Rattle.plan.specs.File.{nodes_in, links_in}
use Rattle.plan.specs.Lists.{event_words}
use Rattle.sheets.specs.Sheet.{sheet_events}
use Rattle.sheets.specs.SheetFile.{lines_in, sheet_refusal, sheet_of}
use Rattle.sheets.specs.declared.Counts.{Counts}

-- the three counts that bytes stand for
unfoldable pub counts_of : List ℕ → Counts
counts_of b = record { nodes = nodes_in b; links = links_in b; lines = lines_in b }

-- reading a sheet: its refusals, then 12 where the lent list has room for `room` whole events, which are too few
unfoldable pub read_sheet_refusal : ℕ → List ℕ → ℕ
read_sheet_refusal room b = first (sheet_refusal b ∷ room_test room (lines_in b) ∷ [])

-- the number with which reading into a lent list of words is refused: an event takes four words
abbrev pub read_sheet_number : List ℕ → List ℕ → ℕ
read_sheet_number s events = read_sheet_refusal (length events / 4) s

-- the counts of an answer: all are 0 where it refuses
abbrev pub counts_in : Result Counts Refusal → Counts
counts_in (Ok counts) = counts
counts_in (Err refused) = record { nodes = 0; links = 0; lines = 0 }

-- the words of the events of the sheet that bytes stand for
abbrev pub sheet_words : List ℕ → List ℕ
sheet_words b = event_words (sheet_events (sheet_of b))
