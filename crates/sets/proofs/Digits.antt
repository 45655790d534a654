-- The words that the small functions make, as sets.
-- Assumes nothing.
use mathlib.Core.Path.{◌≡◌, refl, ap, ◌∙◌}
use mathlib.Core.Bool.{◌&&◌}
use Prim.Native.Nat.{ℕ, zero, suc, ◌-◌, ◌*◌, ◌/◌, ◌%◌, ◌^◌, ◌≤◌, ◌<◌}
use native.Mathlib.Omega.{arith}
use native.Mathlib.Nat.{one-mul, zero-mul}
use lib.Dec.{eqb, ltb}
use lib.Pow.{shl_exact}
use Rattle.sets.specs.Sets.{bit, digit}
use Rattle.sets.proofs.Laws.{bit-none, bit-pow, bit-first}

digit-of : (x : ℕ) → x < 2 → x ≡ digit (eqb x 1)
digit-of zero h = refl
digit-of (suc zero) h = refl
digit-of (suc (suc x)) h = absurd (omega arith)

-- an element's digit
pub digit-is : (s i : ℕ) → s / 2 ^ i % 2 ≡ digit (bit s i)
unfolding bit
digit-is s i = digit-of (s / 2 ^ i % 2) (omega arith)

-- a word shifted left within 64 bits
only-cases : (on i j : ℕ) → on < 2 → bit (on * 2 ^ i) j ≡ (eqb on 1 && eqb j i)
only-cases zero i j h = rw zero-mul (bit-none j)
only-cases (suc zero) i j h = rw one-mul (bit-pow i j)
only-cases (suc (suc on)) i j h = absurd (omega arith)

pub only-is : (on i j : ℕ) → on < 2 → i < 64 → bit (on * 2 ^ i % 2 ^ 64) j ≡ (eqb on 1 && eqb j i)
only-is on i j h l = ap (λ (x : ℕ). bit x j) (shl_exact 1 i 64 h (omega arith)) ∙ only-cases on i j h

one_shifted : (k : ℕ) → k < 64 → 1 * 2 ^ k % 2 ^ 64 ≡ 2 ^ k
one_shifted k h = shl_exact 1 k 64 (omega arith) (omega arith) ∙ one-mul (2 ^ k)

pub first-is : (k j : ℕ) → k < 64 → bit (1 * 2 ^ k % 2 ^ 64 - 1) j ≡ ltb j k
first-is k j h = ap (λ (x : ℕ). bit (x - 1) j) (one_shifted k h) ∙ bit-first k j

pub all-is : (k j : ℕ) → k ≤ 64 → 64 ≤ k → bit 0xffff_ffff_ffff_ffff j ≡ ltb j k
all-is k j h l =
    let e : 64 ≡ k = omega arith in
    bit-first 64 j ∙ ap (ltb j) e
