-- What is refused of the bytes of a sheet, in the order of document 02, request U2, and the sheet that accepted bytes stand for. The header
-- begins as a plan's does, and a member is refused as in a plan.
-- Assumes nothing.
use Rattle.std.specs.Prelude.{List, [], ◌∷◌, ℕ, zero, suc, ◌+◌, ◌*◌, ltb, length, get_or, take, drop}
use Rattle.mass.specs.Refusal.{refuse, first}
use Rattle.mass.specs.Split.{certain}
use Rattle.refusals.specs.Tests.{short_test, mark_test, version_test, counts_test, left_test}
use Rattle.plan.specs.Layout.{value}
use Rattle.plan.specs.File.{version_in, nodes_in, links_in, members_refusal, set_of}
use Rattle.sheets.specs.Sheet.{Line, Sheet}

-- 17: the product of FIT, hours and length is above 10^9
abbrev pub product_test : ℕ → ℕ → ℕ → ℕ
product_test fit hours extent = refuse (ltb certain (fit * hours * extent)) 17

-- 18: more than 128 lines
abbrev pub lines_test : ℕ → ℕ
lines_test lines = refuse (ltb 128 lines) 18

-- the count of lines
abbrev pub lines_in : List ℕ → ℕ
lines_in b = get_or b 7 0

-- "the header is tested as a plan's is": 1, 2, 3, and 4 for the counts of nodes and links alone
unfoldable pub sheet_header_refusal : List ℕ → ℕ
sheet_header_refusal b =
    first
    (short_test (length b) 8
    ∷ mark_test 69 81 83 (get_or b 0 0) (get_or b 1 0) (get_or b 2 0)
    ∷ version_test (version_in b)
    ∷ counts_test (nodes_in b) (links_in b) 0
    ∷ [])

-- a line's FIT, hours and length, its number of members k, and the bytes that it takes
abbrev pub fit_in : List ℕ → ℕ
fit_in b = value (take 4 b)

abbrev pub hours_in : List ℕ → ℕ
hours_in b = value (take 4 (drop 4 b))

abbrev pub extent_in : List ℕ → ℕ
extent_in b = value (take 4 (drop 8 b))

abbrev pub line_members_in : List ℕ → ℕ
line_members_in b = get_or b 12 0

abbrev pub line_size : List ℕ → ℕ
line_size b = 13 + 2 * line_members_in b

-- each line: 1, then each member, "after a line's members, 17"
unfoldable pub line_refusal : ℕ → ℕ → List ℕ → ℕ
line_refusal nodes links b =
    first
    (short_test (length b) 13
    ∷ members_refusal nodes links 0 (line_members_in b) (drop 13 b)
    ∷ product_test (fit_in b) (hours_in b) (extent_in b)
    ∷ [])

-- all lines, then 11 where no line is left
unfoldable pub lines_refusal : ℕ → ℕ → ℕ → List ℕ → ℕ
lines_refusal nodes links zero b = left_test (length b)
lines_refusal nodes links (suc count) b =
    first (line_refusal nodes links b ∷ lines_refusal nodes links count (drop (line_size b) b) ∷ [])

-- the number with which the bytes of a sheet are refused, and 0 where they are accepted: "18, after 11"
unfoldable pub sheet_refusal : List ℕ → ℕ
sheet_refusal b =
    first
    (sheet_header_refusal b
    ∷ lines_refusal (nodes_in b) (links_in b) (lines_in b) (drop 8 b)
    ∷ lines_test (lines_in b)
    ∷ [])

-- a line that bytes stand for, and a number of lines
abbrev pub line_in : List ℕ → Line
line_in b =
    record {
      fit = fit_in b;
      hours = hours_in b;
      extent = extent_in b;
      nodes = set_of 0 (line_members_in b) (drop 13 b);
      links = set_of 1 (line_members_in b) (drop 13 b);
    }

unfoldable pub lines_at : ℕ → List ℕ → List Line
lines_at zero b = []
lines_at (suc count) b = line_in b ∷ lines_at count (drop (line_size b) b)

-- the sheet that bytes stand for
unfoldable pub sheet_of : List ℕ → Sheet
sheet_of b = record { nodes = nodes_in b; links = links_in b; lines = lines_at (lines_in b) (drop 8 b) }
