-- The layout of a sheet file: document 02, request U2, as a function from a sheet to its bytes. Members are laid down as in a plan.
-- Assumes nothing.
use Rattle.std.specs.Prelude.{List, [], ◌∷◌, ◌++◌, ℕ, length}
use Rattle.plan.specs.Layout.{little, members, member_count}
use Rattle.sheets.specs.Sheet.{Line, Sheet, event_of_line}

-- the lines: FIT, hours and length, 32 bits each, one byte k, and k members
unfoldable pub line_bytes : List Line → List ℕ
line_bytes [] = []
line_bytes (l ∷ ls) =
    little 4 l.fit
    ++ (little 4 l.hours
    ++ (little 4 l.extent ++ (member_count (event_of_line l) ∷ (members (event_of_line l) ++ line_bytes ls))))

-- the header, 8 bytes: the letters EQS, the version 1 and the counts of nodes, links and lines
unfoldable pub sheet_header : Sheet → List ℕ
sheet_header s = 69 ∷ 81 ∷ 83 ∷ (little 2 1 ++ (s.nodes ∷ s.links ∷ length s.lines ∷ []))

-- the file of a sheet
unfoldable pub sheet_layout : Sheet → List ℕ
sheet_layout s = sheet_header s ++ line_bytes s.lines
