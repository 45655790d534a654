-- Words of the stack: a set of events in two words, and four words stored and read.
-- Assumes nothing.
use mathlib.Core.Path.{◌≡◌, ap, ◌∙◌}
use mathlib.Core.List.{List, [], ◌∷◌, ◌++◌, append_assoc}
use Prim.Native.Nat.{ℕ, suc, ◌+◌, ◌-◌, ◌*◌, ◌%◌, ◌^◌, ◌≤◌, ◌<◌}
use native.Mathlib.Numerals.{add-one, add-two, add-three, add-four}
use native.Mathlib.Omega.{arith}
use lib.ListN.{length, get_or, take, drop}
use lib.Seq.{sets, drop-cons, drop_at, sets-eq, length-sets, length-take-le}
use lib.Pow.{pow-add, pow_mono, shl_exact}
use Rattle.sets.specs.Sets.{joined}

-- the value of one element of a word
pub element : (i : ℕ) → i < 64 → (1 * 2 ^ i) % 2 ^ 64 ≡ 2 ^ i
element i h = shl_exact {a = 1} 1 i 64 (omega arith) (omega arith) ∙ omega arith

-- one event more, in the high word
module _ (low high event : ℕ) (fits : joined low high < 2 ^ event) (late : 64 ≤ event) (last : event < 128) where
  parted : 2 ^ event ≡ 2 ^ 64 * 2 ^ (event - 64)
  parted = ap (λ (n : ℕ). 2 ^ n) again ∙ pow-add 2 64 (event - 64)
    where
      again : event ≡ 64 + (event - 64)
      again = omega arith

  high_lt : high < 2 ^ (event - 64)
  high_lt = omega (arith, parted)

  pub high_fits : high + (1 * 2 ^ (event - 64)) % 2 ^ 64 < 2 ^ 64
  high_fits = rw (element (event - 64) (omega arith)) (below high_lt (pow_mono {i = event - 64} {j = 63} (omega arith)))
    where
      below : {x p : ℕ} → x < p → p ≤ 2 ^ 63 → x + p < 2 ^ 64
      below a b = omega arith

  pub high-joined : joined low (high + (1 * 2 ^ (event - 64)) % 2 ^ 64) ≡ joined low high + 2 ^ event
  high-joined = rw (element (event - 64) (omega arith)) (omega (arith, parted))

-- the four words from `at` on
pub words-at : (s : List ℕ) (at : ℕ) → at + 4 ≤ length s
    → drop at s ≡ get_or s at 0 ∷ get_or s (at + 1) 0 ∷ get_or s (at + 2) 0 ∷ get_or s (at + 3) 0 ∷ drop (at + 4) s
words-at s at h =
    rw (add-one at, add-two at, add-three at, add-four at)
    (drop-cons s at 0 (omega arith)
    ∙ ap (λ (l : List ℕ). get_or s at 0 ∷ l)
    (drop-cons s (suc at) 0 (omega arith)
    ∙ ap (λ (l : List ℕ). get_or s (suc at) 0 ∷ l)
    (drop-cons s (suc (suc at)) 0 (omega arith)
    ∙ ap (λ (l : List ℕ). get_or s (suc (suc at)) 0 ∷ l) (drop-cons s (suc (suc (suc at))) 0 (omega arith)))))

-- a stack with four words laid down from `at` on: its length, and what it holds from there on
module _ (s s' : List ℕ) (at a b c d : ℕ) (laid : s' ≡ sets s at (a ∷ b ∷ c ∷ d ∷ [])) (size : length s ≡ 512) where
  pub laid-size : length s' ≡ 512
  laid-size = ap length laid ∙ length-sets s at (a ∷ b ∷ c ∷ d ∷ []) ∙ size

  pub laid-words : at + 4 ≤ 512 → drop at s' ≡ a ∷ b ∷ c ∷ d ∷ drop (at + 4) s
  laid-words h =
      ap (drop at) (laid ∙ sets-eq (a ∷ b ∷ c ∷ d ∷ []) s at (omega arith) ∙ append_assoc (take at s) (a ∷ b ∷ c ∷ d ∷ []) (drop (at + 4) s))
      ∙ drop_at (take at s) ((a ∷ b ∷ c ∷ d ∷ []) ++ drop (at + 4) s) at (length-take-le at s (omega arith))
