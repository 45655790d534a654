-- Five words of the stack, stored and read.
-- Assumes nothing.
use mathlib.Core.Path.{◌≡◌, ap, ◌∙◌}
use mathlib.Core.List.{List, [], ◌∷◌, ◌++◌, append_assoc}
use Prim.Native.Nat.{ℕ, suc, ◌+◌, ◌≤◌}
use native.Mathlib.Omega.{arith}
use lib.ListN.{length, get_or, take, drop}
use lib.Seq.{sets, drop-cons, drop_at, sets-eq, length-sets, length-take-le}
use Rattle.walk.proofs.Words as walk-words

add_five : (n : ℕ) → n + 5 ≡ suc (n + 4)
add_five n = omega arith

-- the five words from `at` on
pub words-at : (s : List ℕ) (at : ℕ) → at + 5 ≤ length s
    → drop at s ≡ get_or s at 0 ∷ get_or s (at + 1) 0 ∷ get_or s (at + 2) 0 ∷ get_or s (at + 3) 0 ∷ get_or s (at + 4) 0 ∷ drop (at + 5) s
words-at s at h =
    rw (add_five at)
    (walk-words.words-at s at (omega arith)
    ∙ ap (λ (l : List ℕ). get_or s at 0 ∷ get_or s (at + 1) 0 ∷ get_or s (at + 2) 0 ∷ get_or s (at + 3) 0 ∷ l) (drop-cons s (at + 4) 0 (omega arith)))

-- a stack with five words laid down from `at` on: its length, and what it holds from there on
module _ (s s' : List ℕ) (at a b c d e : ℕ) (laid : s' ≡ sets s at (a ∷ b ∷ c ∷ d ∷ e ∷ [])) (size : length s ≡ 640) where
  pub laid-size : length s' ≡ 640
  laid-size = ap length laid ∙ length-sets s at (a ∷ b ∷ c ∷ d ∷ e ∷ []) ∙ size

  pub laid-words : at + 5 ≤ 640 → drop at s' ≡ a ∷ b ∷ c ∷ d ∷ e ∷ drop (at + 5) s
  laid-words h =
      ap (drop at) (laid ∙ sets-eq (a ∷ b ∷ c ∷ d ∷ e ∷ []) s at (omega arith) ∙ append_assoc (take at s) (a ∷ b ∷ c ∷ d ∷ e ∷ []) (drop (at + 5) s))
      ∙ drop_at (take at s) ((a ∷ b ∷ c ∷ d ∷ e ∷ []) ++ drop (at + 5) s) at (length-take-le at s (omega arith))
