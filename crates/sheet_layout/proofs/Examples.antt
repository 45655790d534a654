-- Computed examples: the definitions of a sheet at given numbers.
-- Assumes nothing.
use mathlib.Core.Path.{◌≡◌, refl}
use mathlib.Core.List.{List, [], ◌∷◌, ◌++◌}
use Prim.Native.Nat.{ℕ, ◌+◌, ◌-◌, ◌*◌, ◌^◌}
use lib.ListN.{replicate}
use Rattle.mass.specs.Refusal.{first}
use Rattle.sheet_order.specs.Order.{place_of, with_element, ordered_with}
use Rattle.plan.specs.Lists.{event_words}
use Rattle.plan.specs.Layout.{value, little, elements, member_bytes, members, member_count}
use Rattle.plan.specs.File.{member_refusal, members_refusal, set_of}
use Rattle.sheets.specs.Sheet.{Line, Sheet, sheet_events}
use Rattle.sheets.specs.SheetLayout.{line_bytes, sheet_header, sheet_layout}
use Rattle.sheets.specs.SheetFile.{product_test, sheet_header_refusal, line_refusal, lines_refusal, sheet_refusal, lines_at, sheet_of}
use Rattle.sheets.specs.SheetCalls.{sheet_words}

-- ---- one line: 100 km of cable, 570 failures in 10^9 hours and kilometre, 24 hours of repair, which takes link 0

cable : Line
cable = record { fit = 570; hours = 24; extent = 100; nodes = 0; links = 1 }

cable_sheet : Sheet
cable_sheet = record { nodes = 2; links = 1; lines = cable ∷ [] }

cable_bytes : List ℕ
cable_bytes = 69 ∷ 81 ∷ 83 ∷ 1 ∷ 0 ∷ 2 ∷ 1 ∷ 1 ∷ 58 ∷ 2 ∷ 0 ∷ 0 ∷ 24 ∷ 0 ∷ 0 ∷ 0 ∷ 100 ∷ 0 ∷ 0 ∷ 0 ∷ 1 ∷ 1 ∷ 0 ∷ []

-- its bytes
cable-layout : sheet_layout cable_sheet ≡ cable_bytes
unfolding cable cable_sheet cable_bytes sheet_layout sheet_header line_bytes little members member_bytes member_count elements
cable-layout = refl

-- are accepted
cable-accepted : sheet_refusal cable_bytes ≡ 0
unfolding cable_bytes sheet_refusal sheet_header_refusal lines_refusal line_refusal members_refusal member_refusal value first
cable-accepted = refl

-- stand for it
cable-read : sheet_of cable_bytes ≡ cable_sheet
unfolding cable cable_sheet cable_bytes sheet_of lines_at set_of value
cable-read = refl

-- and its event has the probability 0.001368
cable-events : sheet_events cable_sheet ≡ record { probability = 1368000; nodes = 0; links = 1 } ∷ []
unfolding cable cable_sheet sheet_events ordered_with with_element place_of
cable-events = refl

-- the words that reading it lays down
cable-words : sheet_words cable_bytes ≡ 1368000 ∷ 0 ∷ 1 ∷ 0 ∷ []
unfolding cable_bytes sheet_of lines_at set_of value sheet_events ordered_with with_element place_of event_words
cable-words = refl

-- ---- falling, ties in sheet order, each line once: boxes at nodes 0 to 3, of 30, 20, 30 and 40 in 10^9

boxes : Sheet
boxes =
    record {
      nodes = 4;
      links = 0;
      lines =
          record { fit = 30; hours = 1; extent = 1; nodes = 1; links = 0 }
          ∷ record { fit = 5; hours = 4; extent = 1; nodes = 2; links = 0 }
          ∷ record { fit = 5; hours = 6; extent = 1; nodes = 4; links = 0 }
          ∷ record { fit = 10; hours = 4; extent = 1; nodes = 8; links = 0 }
          ∷ [];
    }

boxes-events : sheet_events boxes
    ≡ record { probability = 40; nodes = 8; links = 0 }
    ∷ record { probability = 30; nodes = 1; links = 0 }
    ∷ record { probability = 30; nodes = 4; links = 0 }
    ∷ record { probability = 20; nodes = 2; links = 0 }
    ∷ []
unfolding boxes sheet_events ordered_with with_element place_of
boxes-events = refl

-- ---- the product is exact, past 64 bits too

greatest-refused : product_test (2 ^ 32 - 1) (2 ^ 32 - 1) (2 ^ 32 - 1) ≡ 17
greatest-refused = refl

nothing-accepted : product_test (2 ^ 32 - 1) (2 ^ 32 - 1) 0 ≡ 0
nothing-accepted = refl

certain-accepted : product_test 1000000000 1 1 ≡ 0
certain-accepted = refl

above-refused : product_test 1000000001 1 1 ≡ 17
above-refused = refl

-- a product that is 0 in 64 bits
whole-refused : product_test (2 ^ 31) (2 ^ 31) 4 ≡ 17
whole-refused = refl

-- ---- the order of refusals

-- a sheet of one node and as many lines as bytes allow: no link, no member, all numbers 0
abbrev empty_lines : ℕ → ℕ → List ℕ
empty_lines lines more = 69 ∷ 81 ∷ 83 ∷ 1 ∷ 0 ∷ 1 ∷ 0 ∷ lines ∷ replicate (13 * lines + more) 0

no-line-accepted : sheet_refusal (empty_lines 0 0) ≡ 0
unfolding sheet_refusal sheet_header_refusal lines_refusal line_refusal members_refusal value first
no-line-accepted = refl

most-lines-accepted : sheet_refusal (empty_lines 128 0) ≡ 0
unfolding sheet_refusal sheet_header_refusal lines_refusal line_refusal members_refusal value first
most-lines-accepted = refl

-- 18: "more than 128 lines"
one-more-refused : sheet_refusal (empty_lines 129 0) ≡ 18
unfolding sheet_refusal sheet_header_refusal lines_refusal line_refusal members_refusal value first
one-more-refused = refl

all-lines-refused : sheet_refusal (empty_lines 255 0) ≡ 18
unfolding sheet_refusal sheet_header_refusal lines_refusal line_refusal members_refusal value first
all-lines-refused = refl

-- "18, after 11"
left-first : sheet_refusal (empty_lines 129 1) ≡ 11
unfolding sheet_refusal sheet_header_refusal lines_refusal line_refusal members_refusal value first
left-first = refl

-- "after a line's members, 17": link 1 of a sheet with one link, in a line whose product is above 10^9
abbrev great_line : ℕ → List ℕ
great_line link = 69 ∷ 81 ∷ 83 ∷ 1 ∷ 0 ∷ 2 ∷ 1 ∷ 1 ∷ (replicate 12 255 ++ (1 ∷ 1 ∷ link ∷ []))

member-first : sheet_refusal (great_line 1) ≡ 10
unfolding sheet_refusal sheet_header_refusal lines_refusal line_refusal members_refusal member_refusal value first
member-first = refl

product-refused : sheet_refusal (great_line 0) ≡ 17
unfolding sheet_refusal sheet_header_refusal lines_refusal line_refusal members_refusal member_refusal value first
product-refused = refl
