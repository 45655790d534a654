-- Laws of the check of a sheet: the product of three numbers, the tests 17 and 18, one step of the loop over lines from a position on, and
-- what acceptance says of the bytes that are there.
-- Assumes nothing.
use mathlib.Core.Path.{◌≡◌, refl, sym, ◌∙◌, ap}
use mathlib.Core.List.{List, [], ◌∷◌}
use Prim.Native.Nat.{ℕ, zero, suc, ◌+◌, ◌-◌, ◌*◌, ◌≤◌, ◌<◌, min}
use native.Mathlib.Nat.{not-suc-le-zero, min-eq_left, min-eq_right, mul-le-mul_right, mul-zero}
use native.Mathlib.Decide.{dec_le}
use native.Mathlib.Omega.{arith}
use borrow.Author.Tests.{ltb-false, le-ltb}
use lib.ListN.{length, get_or, take, drop}
use lib.Seq.{drop-drop, get_or-drop}
use Rattle.mass.specs.Refusal.{first}
use Rattle.mass.specs.Split.{certain}
use Rattle.mass.proofs.RefusalLaws.{first-none, refuse-none}
use Rattle.refusals.specs.Tests.{short_test, left_test}
use Rattle.refusals.proofs.TestLaws.{Ranges, counts-none}
use Rattle.plan.specs.Layout.{value}
use Rattle.plan.specs.File.{members_refusal, nodes_in, links_in}
use Rattle.plan.proofs.FileLaws.{suc-sub-one}
use Rattle.plan.proofs.FileLawsAccepted.{enough, short-fits, members-fit}
use Rattle.sheets.specs.Sheet.{unavailability}
use Rattle.sheets.specs.SheetFile.{product_test, lines_test, lines_in, sheet_header_refusal, fit_in, hours_in, extent_in, line_size, line_refusal}
use Rattle.sheets.specs.SheetFile.{lines_refusal, line_in, sheet_refusal}

-- ---- the product

-- a product that is cut at 10^9 + 1 after its first factor is cut there as a whole
pub bounded-again : (x e : ℕ) → min (min x (certain + 1) * e) (certain + 1) ≡ min (x * e) (certain + 1)
bounded-again x e = go (dec_le x (certain + 1)) e
  where
    go : Dec (x ≤ certain + 1) → (e : ℕ) → min (min x (certain + 1) * e) (certain + 1) ≡ min (x * e) (certain + 1)
    go (yes h) e = ap (λ (y : ℕ). min (y * e) (certain + 1)) (min-eq_left h)
    go (no h) zero =
        ap (λ (y : ℕ). min y (certain + 1)) (mul-zero (min x (certain + 1)) ∙ sym (mul-zero x))
    go (no h) (suc e) =
        let m : min x (certain + 1) ≡ certain + 1 = min-eq_right (omega arith) in
        ap (λ (y : ℕ). min (y * suc e) (certain + 1)) m
        ∙ min-eq_right (omega arith)
        ∙ sym (min-eq_right (omega (arith, mul-le-mul_right {m = certain + 1} {n = x} (suc e) (omega arith))))

-- ---- the tests 17 and 18

-- 17 is given exactly where the product is above 10^9, and 18 where there are more than 128 lines
pub product-none : (fit hours extent : ℕ) → product_test fit hours extent ≡ 0 → fit * hours * extent ≤ certain
product-none fit hours extent e = ltb-false certain (fit * hours * extent) (refuse-none _ 16 e)

pub product-pass : (fit hours extent : ℕ) → fit * hours * extent ≤ certain → product_test fit hours extent ≡ 0
product-pass fit hours extent h = rw (le-ltb certain (fit * hours * extent) h)

pub count_none : (lines : ℕ) → lines_test lines ≡ 0 → lines ≤ 128
count_none lines e = ltb-false 128 lines (refuse-none _ 17 e)

pub count-pass : (lines : ℕ) → lines ≤ 128 → lines_test lines ≡ 0
count-pass lines h = rw (le-ltb 128 lines h)

-- ---- one line, and one step of the loop over the lines

-- a number inside a line, from the line's own bytes
pub inside : (k at : ℕ) (s : List ℕ) {r : ℕ} → r ≡ value (take 4 (drop (at + k) s)) → r ≡ value (take 4 (drop k (drop at s)))
inside k at s e = e ∙ ap (λ (l : List ℕ). value (take 4 l)) (sym (drop-drop k at s))

-- a function of three numbers
pub on3 : (f : ℕ → ℕ → ℕ → ℕ) {x x' y y' z z' : ℕ} → x ≡ x' → y ≡ y' → z ≡ z' → f x y z ≡ f x' y' z'
on3 f p q r i = f (p i) (q i) (r i)

pub line_step : (nodes links at : ℕ) (s : List ℕ)
    → line_refusal nodes links (drop at s)
    ≡ first
    (short_test (length (drop at s)) 13
    ∷ members_refusal nodes links 0 (get_or s (at + 12) 0) (drop (at + 13) s)
    ∷ product_test (fit_in (drop at s)) (hours_in (drop at s)) (extent_in (drop at s))
    ∷ [])
unfolding line_refusal
line_step nodes links at s = rw (get_or-drop at s 12 0, drop-drop 13 at s)

pub lines_step : (nodes links left at : ℕ) (s : List ℕ) → 0 < left
    → lines_refusal nodes links left (drop at s)
    ≡ first
    (line_refusal nodes links (drop at s)
    ∷ lines_refusal nodes links (left - 1) (drop (at + line_size (drop at s)) s)
    ∷ [])
unfolding lines_refusal
lines_step nodes links zero at s h = absurd (not-suc-le-zero h)
lines_step nodes links (suc left) at s h = rw (drop-drop (line_size (drop at s)) at s, suc-sub-one left)

pub lines_none : (nodes links left : ℕ) (b : List ℕ) → left ≤ 0 → left_test (length b) ≡ lines_refusal nodes links left b
unfolding lines_refusal
lines_none nodes links zero b h = refl
lines_none nodes links (suc left) b h = absurd (not-suc-le-zero h)

-- ---- what acceptance says

pub header-fits : (b : List ℕ) → sheet_header_refusal b ≡ 0 → 8 ≤ length b
unfolding sheet_header_refusal
header-fits b e = enough (length b) 8 refl (first-none _ _ e).0

module _ (nodes links at : ℕ) (s : List ℕ) (e : line_refusal nodes links (drop at s) ≡ 0) where
  pub line-head : at + 13 ≤ length s
  unfolding line_refusal
  line-head = short-fits 13 at s (omega arith) (first-none _ _ e).0

  pub line-members : members_refusal nodes links 0 (get_or s (at + 12) 0) (drop (at + 13) s) ≡ 0
  line-members = (first-none _ _ (first-none _ _ (sym (line_step nodes links at s) ∙ e)).1).0

  pub line-probable : unavailability (line_in (drop at s)) ≤ certain
  line-probable =
      product-none (fit_in (drop at s)) (hours_in (drop at s)) (extent_in (drop at s))
      (first-none _ _ (first-none _ _ (first-none _ _ (sym (line_step nodes links at s) ∙ e)).1).1).0

  pub line-fits : at + line_size (drop at s) ≤ length s
  line-fits =
      omega (
        arith,
        members-fit nodes links 0 (get_or s (at + 12) 0) (at + 13) s line-head line-members,
        get_or-drop at s 12 0,
      )

-- the first of the accepted lines is accepted, and so are those after it
pub lines-accepted : (nodes links left at : ℕ) (s : List ℕ) → 0 < left → lines_refusal nodes links left (drop at s) ≡ 0
    → (line_refusal nodes links (drop at s) ≡ 0) × (lines_refusal nodes links (left - 1) (drop (at + line_size (drop at s)) s) ≡ 0)
lines-accepted nodes links left at s h e =
    let f = first-none _ _ (sym (lines_step nodes links left at s h) ∙ e) in (f.0, (first-none _ _ f.1).0)

module _ (b : List ℕ) (e : sheet_refusal b ≡ 0) where
  pub accepted-header : sheet_header_refusal b ≡ 0
  unfolding sheet_refusal
  accepted-header = (first-none _ _ e).0

  -- the header's bytes are there
  pub sheet-fits : 8 ≤ length b
  sheet-fits = header-fits b accepted-header

  pub accepted-lines : lines_refusal (nodes_in b) (links_in b) (lines_in b) (drop 8 b) ≡ 0
  unfolding sheet_refusal
  accepted-lines = (first-none _ _ (first-none _ _ e).1).0

  -- the counts are in their ranges
  pub accepted-counts : (nodes_in b ≤ 64) × (links_in b ≤ 128) × (lines_in b ≤ 128)
  unfolding sheet_refusal sheet_header_refusal
  accepted-counts =
      let h = (first-none _ _ (first-none _ _ (first-none _ _ (first-none _ _ accepted-header).1).1).1).0 in
      let r : Ranges (nodes_in b) (links_in b) 0 = counts-none (nodes_in b) (links_in b) 0 h in (
        r.nodes-fit,
        r.links-fit,
        count_none (lines_in b) (first-none _ _ (first-none _ _ (first-none _ _ e).1).1).0,
      )
