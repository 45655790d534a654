-- Laws of reading a sheet: one step of the loop over its lines, and what a reading answers and leaves.
-- Assumes nothing.
use mathlib.Core.Path.{◌≡◌, refl, sym, ◌∙◌, ap, ap₂}
use mathlib.Core.List.{List, map}
use Prim.Native.Nat.{ℕ, zero, suc, ◌+◌, ◌-◌, ◌*◌, ◌≤◌, ◌<◌}
use native.Mathlib.Nat.{not-suc-le-zero}
use native.Mathlib.Omega.{arith}
use lib.ListN.{length, get_or, take, drop, length-map}
use lib.Seq.{sets, drop-drop, get_or-drop}
use Rattle.mass.proofs.RefusalLaws.{first-none}
use Rattle.refusals.proofs.TestLaws.{room-none}
use Rattle.plan.specs.Plan.{Event}
use Rattle.plan.specs.File.{set_of}
use Rattle.plan.specs.Calls.{filled}
use Rattle.plan.proofs.FileLaws.{suc-sub-one}
use Rattle.plan_reading.proofs.ReaderLawsAnswer.{take-sets}
use Rattle.sheet_order.specs.Order.{with_element, ordered_with}
use Rattle.sheet_order.proofs.OrderLaws.{length-ordered}
use Rattle.sheets.specs.Sheet.{event_of_line, sheet_events}
use Rattle.sheets.specs.SheetFile.{lines_in, line_members_in, line_size, sheet_refusal, line_in, lines_at, sheet_of}
use Rattle.sheets.specs.SheetCalls.{counts_of, read_sheet_refusal, sheet_words}
use Rattle.sheets.specs.declared.Counts.{Counts}
use Rattle.sheets.proofs.CheckLaws.{accepted-counts}
use Rattle.sheet_order.specs.Inserted.{probability}
use Rattle.sheet_order.proofs.InsertionLaws.{length-words}

-- ---- the loop over the lines

pub lines_next : (es : List Event) (left at : ℕ) (s : List ℕ) → 0 < left
    → ordered_with probability es (map event_of_line (lines_at left (drop at s)))
    ≡ ordered_with probability (with_element probability (event_of_line (line_in (drop at s))) es)
    (map event_of_line (lines_at (left - 1) (drop (at + line_size (drop at s)) s)))
unfolding ordered_with lines_at
lines_next es zero at s h = absurd (not-suc-le-zero h)
lines_next es (suc left) at s h = rw (drop-drop (line_size (drop at s)) at s, suc-sub-one left)

-- the set of a line's members, from the line's own bytes
pub members-in : (kind at : ℕ) (s : List ℕ) {k : ℕ} → k ≡ get_or s (at + 12) 0
    → set_of kind k (drop (at + 13) s) ≡ set_of kind (line_members_in (drop at s)) (drop 13 (drop at s))
members-in kind at s e = ap₂ (set_of kind) (e ∙ sym (get_or-drop at s 12 0)) (sym (drop-drop 13 at s))

pub lines-last : (es : List Event) (left : ℕ) (b : List ℕ) → left ≤ 0
    → ordered_with probability es (map event_of_line (lines_at left b)) ≡ es
unfolding ordered_with lines_at
lines-last es zero b h = refl
lines-last es (suc left) b h = absurd (not-suc-le-zero h)

-- ---- as many events as the count says

length-lines-at : (count : ℕ) (b : List ℕ) → length (lines_at count b) ≡ count
unfolding lines_at
length-lines-at zero b = refl
length-lines-at (suc count) b = ap suc (length-lines-at count (drop (line_size b) b))

pub length-sheet-events : (b : List ℕ) → length (sheet_events (sheet_of b)) ≡ lines_in b
unfolding sheet_events sheet_of
length-sheet-events b =
    length-ordered probability (map event_of_line (lines_at (lines_in b) (drop 8 b)))
    ∙ length-map (lines_at (lines_in b) (drop 8 b)) event_of_line
    ∙ length-lines-at (lines_in b) (drop 8 b)

pub length-sheet-words : (b : List ℕ) → length (sheet_words b) ≡ 4 * lines_in b
length-sheet-words b = length-words (sheet_events (sheet_of b)) ∙ ap (λ (n : ℕ). 4 * n) (length-sheet-events b)

-- ---- an accepted reading: there is room

module _ (room : ℕ) (b : List ℕ) (e : read_sheet_refusal room b ≡ 0) where
  pub read-accepted : sheet_refusal b ≡ 0
  unfolding read_sheet_refusal
  read-accepted = (first-none _ _ e).0

  pub read-room : lines_in b ≤ room
  unfolding read_sheet_refusal
  read-room = room-none room (lines_in b) (first-none _ _ (first-none _ _ e).1).0

-- ---- copying what was read into the lent list

module _ (room : ℕ) (b : List ℕ) (c : Counts) (p : c ≡ counts_of b) (e : read_sheet_refusal room b ≡ 0) where
  pub counts-bounds : (c.lines ≤ room) × (c.lines ≤ 128)
  unfolding counts_of
  counts-bounds = rw p (read-room room b e, (accepted-counts b (read-accepted room b e)).2)

  pub read-words : (space list : List ℕ) → 512 ≤ length space
      → sets list 0 (take (4 * c.lines) (filled (read_sheet_refusal room b) (sheet_words b) space)) ≡ sets list 0 (sheet_words b)
  unfolding counts_of
  read-words space list l =
      let k : 4 * c.lines ≡ length (sheet_words b) = rw p (sym (length-sheet-words b)) in
      rw (e, k, take-sets space (sheet_words b) (omega (arith, counts-bounds)))
