-- Laws of a set's lowest element: what `trailing_zeros` finds, and the set without it.
-- Assumes nothing.
use mathlib.Core.Path.{◌≡◌, refl, sym, ap, ◌∙◌}
use mathlib.Core.Bool.{true, false, not, ◌&&◌, and-true, and_self}
use Prim.Native.Nat.{ℕ, zero, suc, ◌-◌, ◌/◌, ◌%◌, ◌^◌, ◌<◌}
use native.Mathlib.Omega.{arith}
use lib.Dec.{eqb, eqb-suc-zero, eqb-suc-suc}
use lib.Bits.{bit_and}
use lib.Count.{count_trailing_zeros}
use Rattle.sets.specs.Sets.{bit}
use Rattle.sets.proofs.Laws.{bit-zero, bit-suc, bit-and, bit_below}

-- ---- by the lowest digit

module _ (k s : ℕ) where
  odd-first : s % 2 ≡ 1 → count_trailing_zeros (suc k) s ≡ 0
  unfolding count_trailing_zeros
  odd-first e = rw e

  even-later : s % 2 ≡ 0 → count_trailing_zeros (suc k) s ≡ suc (count_trailing_zeros k (s / 2))
  unfolding count_trailing_zeros
  even-later e = rw e

digit-bit : (s d : ℕ) → s % 2 ≡ d → bit s 0 ≡ eqb d 1
digit-bit s d e = bit-zero s ∙ ap (λ (x : ℕ). eqb x 1) e

-- ---- the lowest element of a set below 2^k that is not empty

-- is an element
pub lowest-in : (k s : ℕ) → s < 2 ^ k → 0 < s → bit s (count_trailing_zeros k s) ≡ true
lowest-in zero s h p = absurd (omega arith)
lowest-in (suc k) s h p = go (lowest-in k (s / 2) (omega arith)) (s % 2) refl
  where
    go : (0 < s / 2 → bit (s / 2) (count_trailing_zeros k (s / 2)) ≡ true) → (d : ℕ) → s % 2 ≡ d → bit s (count_trailing_zeros (suc k) s) ≡ true
    go ih zero e = rw (even-later k s e, bit-suc) (ih (omega arith))
    go ih (suc zero) e = rw (odd-first k s e) (digit-bit s 1 e)
    go ih (suc (suc d)) e = absurd (omega arith)

-- is below k
pub lowest-lt : (k s : ℕ) → s < 2 ^ k → 0 < s → count_trailing_zeros k s < k
lowest-lt k s h p = bit_below s k (count_trailing_zeros k s) h (lowest-in k s h p)

-- has no element below it
pub lowest-first : (k s i : ℕ) → i < count_trailing_zeros k s → bit s i ≡ false
unfolding count_trailing_zeros
lowest-first zero s i h = absurd (omega arith)
lowest-first (suc k) s i h = go i (lowest-first k (s / 2)) (s % 2) refl h
  where
    go : (i : ℕ) → ((j : ℕ) → j < count_trailing_zeros k (s / 2) → bit (s / 2) j ≡ false) → (d : ℕ) → s % 2 ≡ d → i < count_trailing_zeros (suc k) s → bit s i ≡ false
    go zero ih zero e h = digit-bit s 0 e
    go (suc j) ih zero e h = bit-suc s j ∙ ih j (omega (arith, even-later k s e))
    go i ih (suc zero) e h = absurd (omega (arith, odd-first k s e))
    go i ih (suc (suc d)) e h = absurd (omega arith)

-- leaves the others: s without its lowest element is the intersection of s and s - 1
rest-cases : (k s i : ℕ) → s < 2 ^ k → 0 < s → (bit s i && bit (s - 1) i) ≡ (bit s i && not (eqb i (count_trailing_zeros k s)))
rest-cases zero s i h p = absurd (omega arith)
rest-cases (suc k) s i h p = go i (λ j. rest-cases k (s / 2) j (omega arith)) (s % 2) refl
  where
    Rest : ℕ → Type 0
    Rest i = (bit s i && bit (s - 1) i) ≡ (bit s i && not (eqb i (count_trailing_zeros (suc k) s)))

    go : (i : ℕ) → ((j : ℕ) → 0 < s / 2 → (bit (s / 2) j && bit (s / 2 - 1) j) ≡ (bit (s / 2) j && not (eqb j (count_trailing_zeros k (s / 2)))))
        → (d : ℕ) → s % 2 ≡ d → Rest i
    go zero ih zero e = rw (digit-bit s 0 e)
    go (suc j) ih zero e =
        let half : (s - 1) / 2 ≡ s / 2 - 1 = omega arith in
        rw (bit-suc s j, bit-suc (s - 1) j, half, even-later k s e, eqb-suc-suc) (ih j (omega arith))
    go zero ih (suc zero) e =
        let even : (s - 1) % 2 ≡ 0 = omega arith in
        rw (odd-first k s e, digit-bit (s - 1) 0 even)
    go (suc j) ih (suc zero) e =
        let half : (s - 1) / 2 ≡ s / 2 = omega arith in
        rw (bit-suc s j, bit-suc (s - 1) j, half, odd-first k s e, eqb-suc-zero, and_self) (sym (and-true (bit (s / 2) j)))
    go i ih (suc (suc d)) e = absurd (omega arith)

pub lowest-rest : (k s i : ℕ) → s < 2 ^ k → 0 < s → bit (bit_and s (s - 1)) i ≡ (bit s i && not (eqb i (count_trailing_zeros k s)))
lowest-rest k s i h p = bit-and s (s - 1) i ∙ rest-cases k s i h p
