-- Laws of the tests on sets.
-- Assumes nothing.
use mathlib.Core.Path.{◌≡◌, refl, sym, ◌∙◌, ap}
use mathlib.Core.Bool.{true}
use Prim.Native.Nat.{ℕ, zero, suc, ◌+◌, ◌-◌, ◌*◌, ◌/◌, ◌^◌, ◌≤◌, ◌<◌}
use native.Mathlib.Nat.{le-div_iff_mul-le, one-mul}
use native.Mathlib.Decide.{dec_le}
use native.Mathlib.Omega.{arith}
use borrow.Author.Tests.{le-leb, lt-leb}
use lib.Dec.{ltb, leb}
use lib.Pow.{pow-add, pow_pos, pow_mono}
use Rattle.sets.specs.Sets.{joined}

-- two tests that hold together are equal
leb-same : (a b x y : ℕ) → (a ≤ b → x ≤ y) → (x ≤ y → a ≤ b) → leb a b ≡ leb x y
leb-same a b x y f g = go (dec_le a b)
  where
    not-less : (a ≤ b → ⊥) → (x ≤ y) → ⊥
    not-less n h = n (g h)

    below : (m n : ℕ) → (m ≤ n → ⊥) → n < m
    below m n h = omega (arith, h)

    go : Dec (a ≤ b) → leb a b ≡ leb x y
    go (yes h) = le-leb a b h ∙ sym (le-leb x y (f h))
    go (no n) = lt-leb a b (below a b n) ∙ sym (lt-leb x y (below x y (not-less n)))

-- a set has an element that is `count` or more exactly where something is left after a shift by `count`
pub reach-shift : (count set : ℕ) → ltb 0 (set / 2 ^ count) ≡ leb (2 ^ count) set
reach-shift count set =
    leb-same 1 (set / 2 ^ count) (2 ^ count) set
    (λ h. rw one-mul at ((le-div_iff_mul-le {k = 2 ^ count} {x = 1} {y = set} (pow_pos count)).0 h))
    (λ h. (le-div_iff_mul-le {k = 2 ^ count} {x = 1} {y = set} (pow_pos count)).1 (rw one-mul h))

-- an element from 64 on is above the low word
pub high-power : (i : ℕ) → 64 ≤ i → 2 ^ i ≡ 2 ^ (i - 64) * 2 ^ 64
high-power i h = let e : i - 64 + 64 ≡ i = omega arith in sym (ap (λ (k : ℕ). 2 ^ k) e) ∙ pow-add 2 (i - 64) 64

-- elements from 64 on stand in the high word
pub reach-high : (count low high : ℕ) → 64 ≤ count → low < 2 ^ 64 → leb (2 ^ (count - 64)) high ≡ leb (2 ^ count) (joined low high)
reach-high count low high h fits =
    let p = high-power count h in
    leb-same (2 ^ (count - 64)) high (2 ^ count) (joined low high) (λ g. omega arith) (λ g. omega arith)
