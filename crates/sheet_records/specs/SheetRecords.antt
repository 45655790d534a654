-- Reading an equipment sheet into a lent list of records: document 02, request U2.
-- Assumes nothing.
use Rattle.std.specs.Prelude.{List, ℕ, length}
use Rattle.record_lists.specs.declared.Event.{Event}
use Rattle.record_reading.specs.Filled.{event_records}
use Rattle.sheets.specs.Sheet.{sheet_events}
use Rattle.sheets.specs.SheetFile.{sheet_of}
use Rattle.sheets.specs.SheetCalls.{read_sheet_refusal}

-- the number with which reading into a lent list of records is refused: a record holds an event
abbrev pub sheet_records_number : List ℕ → List Event → ℕ
sheet_records_number s events = read_sheet_refusal (length events) s

-- the records of the events of the sheet that bytes stand for
abbrev pub sheet_records : List ℕ → List Event
sheet_records b = event_records (sheet_events (sheet_of b))
