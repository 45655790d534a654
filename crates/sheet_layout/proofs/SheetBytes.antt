-- The whole sheet file: the layout of a valid sheet is accepted and stands for the sheet; accepted bytes are the layout of the valid sheet
-- that they stand for.
-- Assumes nothing.
use mathlib.Core.Path.{◌≡◌, refl, ap, ◌∙◌}
use mathlib.Core.List.{List, ◌∷◌, ◌++◌, append_assoc}
use Prim.Native.Nat.{ℕ, ◌≤◌}
use native.Mathlib.Omega.{arith}
use lib.ListN.{length, get_or, take, drop, length-drop, take-append-drop}
use lib.Seq.{drop-drop, drop-cons}
use Rattle.mass.specs.Refusal.{first}
use Rattle.mass.proofs.RefusalLaws.{first-none}
use Rattle.refusals.specs.Tests.{mark_test, version_test, counts_test}
use Rattle.refusals.proofs.TestLaws.{short_none, short-pass, mark-none, version-none, counts-none, counts-pass, Ranges}
use Rattle.plan.specs.Layout.{value, little, Bytes}
use Rattle.plan.specs.File.{version_in, nodes_in, links_in}
use Rattle.plan_layout.proofs.LayoutNumbers.{bytes_drop, little-again}
use Rattle.sheets.specs.Sheet.{Sheet}
use Rattle.sheets.specs.Valid.{ValidSheet}
use Rattle.sheets.specs.SheetLayout.{line_bytes, sheet_header, sheet_layout}
use Rattle.sheets.specs.SheetFile.{lines_in, sheet_header_refusal, lines_refusal, sheet_refusal, sheet_of}
use Rattle.sheets.proofs.CheckLaws.{count_none, count-pass}
use Rattle.sheet_layout.proofs.SheetLines.{ReadLines, lines-accepted, lines-read}

-- the fields of a file of at least 8 bytes, put together again
fields-again : (b : List ℕ) → 8 ≤ length b
    → get_or b 0 0 ∷ get_or b 1 0 ∷ get_or b 2 0 ∷ (take 2 (drop 3 b) ++ (get_or b 5 0 ∷ get_or b 6 0 ∷ get_or b 7 0 ∷ drop 8 b)) ≡ b
fields-again b h =
    rw (
      ← drop-cons b 7 0 (omega arith),
      ← drop-cons b 6 0 (omega arith),
      ← drop-cons b 5 0 (omega arith),
      ← drop-drop 2 3 b,
      take-append-drop 2 (drop 3 b),
      ← drop-cons b 2 0 (omega arith),
      ← drop-cons b 1 0 (omega arith),
      ← drop-cons b 0 0 (omega arith),
    )

-- what an accepted header says
pub record AcceptedHeader (b : List ℕ) : Type 0 where
  pub long : 8 ≤ length b
  pub mark : mark_test 69 81 83 (get_or b 0 0) (get_or b 1 0) (get_or b 2 0) ≡ 0
  pub version : version_test (version_in b) ≡ 0
  pub counts : counts_test (nodes_in b) (links_in b) 0 ≡ 0

pub header-none : (b : List ℕ) → sheet_header_refusal b ≡ 0 → AcceptedHeader b
unfolding sheet_header_refusal
header-none b e =
    let s = first-none _ _ e in
    let m = first-none _ _ s.1 in
    let v = first-none _ _ m.1 in
    record { long = short_none (length b) 8 s.0; mark = m.0; version = v.0; counts = (first-none _ _ v.1).0 }

pub header-pass : (b : List ℕ) → AcceptedHeader b → sheet_header_refusal b ≡ 0
unfolding sheet_header_refusal first
header-pass b a = rw (short-pass (length b) 8 a.long, a.mark, a.version, a.counts)

-- what an accepted list of bytes says
pub record AcceptedSheet (b : List ℕ) : Type 0 where
  pub header : AcceptedHeader b
  pub lines : lines_refusal (nodes_in b) (links_in b) (lines_in b) (drop 8 b) ≡ 0
  pub lines_fit : lines_in b ≤ 128

pub sheet-none : (b : List ℕ) → sheet_refusal b ≡ 0 → AcceptedSheet b
unfolding sheet_refusal
sheet-none b e =
    let h = first-none _ _ e in
    let l = first-none _ _ h.1 in
    record { header = header-none b h.0; lines = l.0; lines_fit = count_none (lines_in b) (first-none _ _ l.1).0 }

pub sheet-pass : (b : List ℕ) → AcceptedSheet b → sheet_refusal b ≡ 0
unfolding sheet_refusal first
sheet-pass b a = rw (header-pass b a.header, a.lines, count-pass (lines_in b) a.lines_fit)

-- ---- from a sheet to its bytes

module _ (s : Sheet) (v : ValidSheet s) where
  -- the layout of a valid sheet is accepted
  pub layout-accepted : sheet_refusal (sheet_layout s) ≡ 0
  unfolding sheet_layout sheet_header little
  layout-accepted =
      sheet-pass (sheet_layout s)
      (record {
        header =
            record {
              long = omega arith;
              mark = refl;
              version = unfold value in refl;
              counts = counts-pass s.nodes s.links 0 v.some-node v.nodes-fit v.links-fit (omega arith);
            };
        lines = (lines-accepted s.nodes s.links v.nodes-fit v.links-fit s.lines v.each_line).0;
        lines_fit = v.lines_fit;
      })

  -- and stands for the sheet
  pub layout-read : sheet_of (sheet_layout s) ≡ s
  unfolding sheet_of sheet_layout sheet_header little
  layout-read = rw (lines-accepted s.nodes s.links v.nodes-fit v.links-fit s.lines v.each_line).1

-- ---- from bytes to the sheet

module _ (b : List ℕ) (bytes : Bytes b) (a : AcceptedSheet b) where
  ranges : Ranges (nodes_in b) (links_in b) 0
  ranges = counts-none (nodes_in b) (links_in b) 0 a.header.counts

  abbrev line-part : ReadLines (nodes_in b) (links_in b) ranges.nodes-fit ranges.links-fit (lines_in b) (drop 8 b)
  line-part =
      lines-read (nodes_in b) (links_in b) ranges.nodes-fit ranges.links-fit (lines_in b) (drop 8 b) (bytes_drop 8 b bytes) a.lines

  -- the sheet that accepted bytes stand for is valid
  pub read-valid : ValidSheet (sheet_of b)
  unfolding sheet_of
  read-valid =
      record {
        some-node = ranges.some;
        nodes-fit = ranges.nodes-fit;
        links-fit = ranges.links-fit;
        lines_fit = rw line-part.counted a.lines_fit;
        each_line = line-part.valid;
      }

  head_bytes : sheet_header (sheet_of b) ++ drop 8 b ≡ b
  unfolding sheet_header sheet_of
  head_bytes =
      let h : 8 ≤ length b = a.header.long in
      let m = mark-none 69 81 83 (get_or b 0 0) (get_or b 1 0) (get_or b 2 0) a.header.mark in
      let again : little 2 (version_in b) ≡ take 2 (drop 3 b) =
      little-again 2 (drop 3 b) (bytes_drop 3 b bytes) (omega (arith, length-drop 3 b)) in
      let two : little 2 1 ≡ take 2 (drop 3 b) = rw (version-none (version_in b) a.header.version) at again in
      rw (append_assoc (little 2 1) _ (drop 8 b), line-part.counted, two) (rw (m.0, m.1, m.2) at (fields-again b h))

  -- and its layout is the bytes
  pub read-layout : sheet_layout (sheet_of b) ≡ b
  unfolding sheet_layout
  read-layout = ap (λ (r : List ℕ). sheet_header (sheet_of b) ++ r) body ∙ head_bytes
    where
      body : line_bytes (sheet_of b).lines ≡ drop 8 b
      body = unfold sheet_of in line-part.bytes
