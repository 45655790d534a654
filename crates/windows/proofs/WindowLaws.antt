-- Laws of windows in a list of words: the next one, the refusals of a list window by window, and what is out with one window more.
-- Assumes nothing.
use mathlib.Core.Path.{◌≡◌, refl, sym, ap, ◌∙◌}
use mathlib.Core.Bool.{true, false}
use mathlib.Core.List.{List, [], ◌∷◌}
use Prim.Native.Nat.{ℕ, zero, suc, ◌+◌, ◌-◌, ◌*◌, ◌≤◌, ◌<◌}
use native.Mathlib.Nat.{add-zero}
use native.Mathlib.Omega.{arith}
use lib.ListN.{drop}
use lib.Seq.{get_or-drop, drop-drop}
use Rattle.mass.specs.Refusal.{first, each, number}
use Rattle.mass.specs.declared.refusal.Refusal.{Refusal}
use Rattle.mass.proofs.RefusalLaws.{stops, passes}
use Rattle.network.specs.Outage.{Outage, intact, beside}
use Rattle.windows.specs.Windows.{Window, window_at, windows_of, holds, with_window, out_at, window_test}

less_one : (k : ℕ) → suc k - 1 ≡ k
less_one k = omega arith

-- the windows from a position on: the next one, then the others
pub windows-next : (words : List ℕ) (at left : ℕ) → 0 < left
    → windows_of left (drop at words) ≡ window_at words at ∷ windows_of (left - 1) (drop (at + 5) words)
unfolding windows_of
windows-next words at zero h = absurd (omega arith)
windows-next words at (suc left) h = simp (get_or-drop, drop-drop, add-zero, less_one)

-- ---- the refusal of a list

-- the next window decides, or leaves it to the others
module _ (nodes links : ℕ) (words : List ℕ) (at left : ℕ) (some : 0 < left) where
  pub window-decides : (r : Refusal) → number r ≡ window_test nodes links (window_at words at)
      → number r ≡ each (window_test nodes links) (windows_of left (drop at words))
  window-decides r e = rw (windows-next words at left some) (stops r _ e)

  pub window-passes : 0 ≡ window_test nodes links (window_at words at)
      → each (window_test nodes links) (windows_of (left - 1) (drop (at + 5) words))
      ≡ each (window_test nodes links) (windows_of left (drop at words))
  window-passes z = rw (windows-next words at left some) (passes _ z refl)

-- no window is left, and none is refused
pub windows-end : (nodes links left : ℕ) (words : List ℕ) → left ≤ 0 → 0 ≡ each (window_test nodes links) (windows_of left words)
unfolding windows_of first
windows-end nodes links zero words h = refl
windows-end nodes links (suc left) words h = absurd (omega arith)

-- ---- what is out at a minute

module _ (minute : ℕ) where
  pub out_none : out_at [] minute ≡ intact
  unfolding out_at
  out_none = refl

  -- a window that holds the minute takes its set out, and another takes nothing out
  module _ (w : Window) (later : List Window) where
    pub out-held : holds w minute ≡ true → out_at (w ∷ later) minute ≡ beside (out_at later minute) w.out
    unfolding out_at
    out-held h = rw h

    pub out-passed : holds w minute ≡ false → out_at (w ∷ later) minute ≡ out_at later minute
    unfolding out_at
    out-passed h = rw h

  -- no window yet
  pub out-start : (words : List ℕ) (count : ℕ) → intact ≡ out_at (windows_of (count - count) (drop (5 * count) words)) minute
  unfolding windows_of out_at
  out-start words count =
      let e : count - count ≡ 0 = omega arith in
      sym (ap (λ (k : ℕ). out_at (windows_of k (drop (5 * count) words)) minute) e)

  -- one window more, the last of the first `left`
  pub out-next : (words : List ℕ) (count left : ℕ) (out next : Outage) → 0 < left → left ≤ count
      → out ≡ out_at (windows_of (count - left) (drop (5 * left) words)) minute → next ≡ with_window (window_at words (5 * (left - 1))) minute out
      → next ≡ out_at (windows_of (count - (left - 1)) (drop (5 * (left - 1)) words)) minute
  unfolding out_at
  out-next words count left out next some most e f =
      let k : count - left ≡ count - (left - 1) - 1 = omega arith in
      let n : 5 * left ≡ 5 * (left - 1) + 5 = omega arith in
      f ∙ ap (with_window (window_at words (5 * (left - 1))) minute) (e ∙ (λ i. out_at (windows_of (k i) (drop (n i) words)) minute))
      ∙ sym (ap (λ (list : List Window). out_at list minute) (windows-next words (5 * (left - 1)) (count - (left - 1)) (omega arith)))

  -- every window
  pub out-all : (words : List ℕ) (count left : ℕ) → left ≤ 0
      → out_at (windows_of (count - left) (drop (5 * left) words)) minute ≡ out_at (windows_of count words) minute
  out-all words count zero h = let e : count - 0 ≡ count = omega arith in ap (λ (k : ℕ). out_at (windows_of k words) minute) e
  out-all words count (suc left) h = absurd (omega arith)
