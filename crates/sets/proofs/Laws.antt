-- Laws of sets as numbers, each over every width: what `bit` says of the operations on words, and that the bits determine the set.
-- Assumes nothing.
use mathlib.Core.Path.{◌≡◌, refl, sym, ap, ◌∙◌}
use mathlib.Core.Bool.{Bool, true, false, not, ◌&&◌, ◌||◌, xor, and-false, true≢false, false≢true}
use Prim.Native.Nat.{ℕ, zero, suc, ◌+◌, ◌-◌, ◌*◌, ◌/◌, ◌%◌, ◌^◌, ◌≤◌, ◌<◌, min, max}
use native.Mathlib.Omega.{arith}
use native.Mathlib.Nat.{div-one, div-eq_of_lt, lt_of_lt_of_le, lt_of_not-le}
use native.Mathlib.Numerals.{one-add}
use lib.Dec.{eqb, ltb, eqb-zero-suc, eqb-suc-zero, eqb-suc-suc, leb-suc-zero, leb-suc-suc, leb-zero}
use lib.Pow
use lib.Pow.{shr-shr, shl-shr, pow_mono, pow_pos}
use lib.Bits.{bit_and, bit_or, bit_xor, differ, and_step, or_step, xor_step, and_shr, or_shr, xor_shr, or_shifted, or_disjoint, shifted_half}
use lib.Bits.{shifted_even}
use borrow.Author.Tests.{eqb-true}
use Rattle.sets.specs.Sets.{bit}

-- ---- one element at a time

-- element 0 is the lowest digit
pub bit-zero : (s : ℕ) → bit s 0 ≡ eqb (s % 2) 1
unfolding bit
bit-zero s = rw div-one

-- the elements from k on are those of the set shifted right by k
pub bit-shr : (s k i : ℕ) → bit (s / 2 ^ k) i ≡ bit s (k + i)
unfolding bit
bit-shr s k i = rw shr-shr

-- the elements after the first are those of the half
pub bit-suc : (s i : ℕ) → bit s (suc i) ≡ bit (s / 2) i
bit-suc s i = rw (← one-add i) (sym (bit-shr s 1 i))

-- the empty set has no element
pub bit-none : (i : ℕ) → bit 0 i ≡ false
bit-none zero = bit-zero 0
bit-none (suc i) = bit-suc 0 i ∙ bit-none i

-- an element gives a set that is not empty
pub bit-pos : (s i : ℕ) → bit s i ≡ true → 0 < s
bit-pos zero i e = absurd (true≢false (sym e ∙ bit-none i))
bit-pos (suc s) i e = omega arith

-- a set below 2^k has no element at or past k
pub bit_past : (s k i : ℕ) → s < 2 ^ k → k ≤ i → bit s i ≡ false
unfolding bit
bit_past s k i h l = rw (div-eq_of_lt (lt_of_lt_of_le h (pow_mono l)))

-- so each of its elements is below k
pub bit_below : (s k i : ℕ) → s < 2 ^ k → bit s i ≡ true → i < k
bit_below s k i h e = lt_of_not-le (λ l. true≢false (sym e ∙ bit_past s k i h l))

-- ---- two sets with the same elements are equal

digit-same : (x y : ℕ) → x < 2 → y < 2 → eqb x 1 ≡ eqb y 1 → x ≡ y
digit-same zero zero h l e = refl
digit-same zero (suc zero) h l e = absurd (false≢true e)
digit-same (suc zero) zero h l e = absurd (true≢false e)
digit-same (suc zero) (suc zero) h l e = refl
digit-same zero (suc (suc y)) h l e = omega arith
digit-same (suc zero) (suc (suc y)) h l e = omega arith
digit-same (suc (suc x)) y h l e = omega arith

pub bit-ext : (k a b : ℕ) → a < 2 ^ k → b < 2 ^ k → ((i : ℕ) → i < k → bit a i ≡ bit b i) → a ≡ b
bit-ext zero a b h l e = omega arith
bit-ext (suc k) a b h l e =
    let halves : a / 2 ≡ b / 2 = bit-ext k (a / 2) (b / 2) (omega arith) (omega arith) (λ i m. sym (bit-suc a i) ∙ e (suc i) (omega arith) ∙ bit-suc b i) in
    let digits : a % 2 ≡ b % 2 = digit-same (a % 2) (b % 2) (omega arith) (omega arith) (sym (bit-zero a) ∙ e 0 (omega arith) ∙ bit-zero b) in
    omega arith

below-pow : (n : ℕ) → n < 2 ^ n
below-pow zero = omega arith
below-pow (suc n) = omega (arith, below-pow n)

-- the same without a width
pub bits-same : (a b : ℕ) → ((i : ℕ) → bit a i ≡ bit b i) → a ≡ b
bits-same a b e =
    bit-ext (a + b) a b
    (lt_of_lt_of_le (below-pow a) (pow_mono (omega arith)))
    (lt_of_lt_of_le (below-pow b) (pow_mono (omega arith)))
    (λ i h. e i)

-- ---- union, intersection, difference

-- an operation on words that works digit by digit, as f on digits and g on Bools, is g on elements
module _
    (op f : ℕ → ℕ → ℕ)
    (g : Bool → Bool → Bool)
    (shr : (a b k : ℕ) → op a b / 2 ^ k ≡ op (a / 2 ^ k) (b / 2 ^ k))
    (step : (a b : ℕ) → op a b ≡ op (a / 2) (b / 2) * 2 + f (a % 2) (b % 2))
    (digit : (x y : ℕ) → x < 2 → y < 2 → (f x y < 2) × (eqb (f x y) 1 ≡ g (eqb x 1) (eqb y 1)))
  where
    lowest-digit : (a b : ℕ) → op a b % 2 ≡ f (a % 2) (b % 2)
    lowest-digit a b = omega (arith, step a b, (digit (a % 2) (b % 2) (omega arith) (omega arith)).0)

    bit-op : (a b i : ℕ) → bit (op a b) i ≡ g (bit a i) (bit b i)
    unfolding bit
    bit-op a b i = rw (shr, lowest-digit) (digit (a / 2 ^ i % 2) (b / 2 ^ i % 2) (omega arith) (omega arith)).1

-- a law of two digits, by the four cases
by_digits : (f : ℕ → ℕ → ℕ) (g : Bool → Bool → Bool)
    → (f 0 0 < 2) × (eqb (f 0 0) 1 ≡ g false false)
    → (f 0 1 < 2) × (eqb (f 0 1) 1 ≡ g false true)
    → (f 1 0 < 2) × (eqb (f 1 0) 1 ≡ g true false)
    → (f 1 1 < 2) × (eqb (f 1 1) 1 ≡ g true true)
    → (x y : ℕ) → x < 2 → y < 2 → (f x y < 2) × (eqb (f x y) 1 ≡ g (eqb x 1) (eqb y 1))
by_digits f g p q r s zero zero h l = p
by_digits f g p q r s zero (suc zero) h l = q
by_digits f g p q r s (suc zero) zero h l = r
by_digits f g p q r s (suc zero) (suc zero) h l = s
by_digits f g p q r s zero (suc (suc y)) h l = absurd (omega arith)
by_digits f g p q r s (suc zero) (suc (suc y)) h l = absurd (omega arith)
by_digits f g p q r s (suc (suc x)) y h l = absurd (omega arith)

pub bit-or : (a b i : ℕ) → bit (bit_or a b) i ≡ (bit a i || bit b i)
bit-or = bit-op bit_or max ◌||◌ or_shr or_step (by_digits max ◌||◌ (omega arith, refl) (omega arith, refl) (omega arith, refl) (omega arith, refl))

pub bit-and : (a b i : ℕ) → bit (bit_and a b) i ≡ (bit a i && bit b i)
bit-and = bit-op bit_and min ◌&&◌ and_shr and_step (by_digits min ◌&&◌ (omega arith, refl) (omega arith, refl) (omega arith, refl) (omega arith, refl))

pub bit-xor : (a b i : ℕ) → bit (bit_xor a b) i ≡ xor (bit a i) (bit b i)
unfolding xor
bit-xor = bit-op bit_xor differ xor xor_shr xor_step (by_digits differ xor (omega arith, refl) (omega arith, refl) (omega arith, refl) (omega arith, refl))

-- a less b: the elements of a that b lacks
less-cases : (x y : Bool) → xor x (x && y) ≡ (x && not y)
unfolding xor
less-cases true true = refl
less-cases true false = refl
less-cases false y = refl

pub bit-less : (a b i : ℕ) → bit (bit_xor a (bit_and a b)) i ≡ (bit a i && not (bit b i))
bit-less a b i = bit-xor a (bit_and a b) i ∙ ap (xor (bit a i)) (bit-and a b i) ∙ less-cases (bit a i) (bit b i)

-- ---- shifts, and the set of one element

-- shifted left by k: element i becomes k + i, and there is none below k
pub bit-shl : (s k i : ℕ) → bit (s * 2 ^ k) (k + i) ≡ bit s i
bit-shl s k i = rw (← bit-shr (s * 2 ^ k) k i, shl-shr)

pub bit-shl-below : (s k i : ℕ) → i < k → bit (s * 2 ^ k) i ≡ false
bit-shl-below s zero i h = absurd (omega arith)
bit-shl-below s (suc k) zero h = rw (bit-zero, shifted_even)
bit-shl-below s (suc k) (suc i) h = rw (bit-suc, shifted_half) (bit-shl-below s k i (omega arith))

-- the set of the one element j
pub bit-pow : (j i : ℕ) → bit (2 ^ j) i ≡ eqb i j
bit-pow zero zero = bit-zero 1
bit-pow zero (suc i) = bit-suc 1 i ∙ bit-none i ∙ sym (eqb-suc-zero i)
bit-pow (suc j) zero = bit-zero (2 ^ suc j) ∙ ap (λ (x : ℕ). eqb x 1) (even j) ∙ sym (eqb-zero-suc j)
  where
    even : (j : ℕ) → 2 ^ suc j % 2 ≡ 0
    even j = omega arith
bit-pow (suc j) (suc i) = bit-suc (2 ^ suc j) i ∙ ap (λ (x : ℕ). bit x i) (half j) ∙ bit-pow j i ∙ sym (eqb-suc-suc i j)
  where
    half : (j : ℕ) → 2 ^ suc j / 2 ≡ 2 ^ j
    half j = omega arith

-- the set of the first k elements
pub bit-first : (k i : ℕ) → bit (2 ^ k - 1) i ≡ ltb i k
bit-first zero i = bit-none i ∙ sym (leb-suc-zero i)
bit-first (suc k) zero = bit-zero (2 ^ suc k - 1) ∙ ap (λ (x : ℕ). eqb x 1) odd ∙ sym (leb-suc-suc 0 k ∙ leb-zero k)
  where
    odd : (2 ^ suc k - 1) % 2 ≡ 1
    odd = omega (arith, pow_pos k)
bit-first (suc k) (suc i) =
    bit-suc (2 ^ suc k - 1) i ∙ ap (λ (x : ℕ). bit x i) half ∙ bit-first k i ∙ sym (leb-suc-suc (suc i) k)
  where
    half : (2 ^ suc k - 1) / 2 ≡ 2 ^ k - 1
    half = omega (arith, pow_pos k)

-- 2^j added to a set that lacks j
pub bit-add : (s j i : ℕ) → bit s j ≡ false → bit (s + 2 ^ j) i ≡ (bit s i || eqb i j)
bit-add s j i e =
    ap (λ (x : ℕ). bit x i) (sym (or_disjoint s (2 ^ j) (bits-same _ 0 apart))) ∙ bit-or s (2 ^ j) i ∙ ap (λ (x : Bool). bit s i || x) (bit-pow j i)
  where
    meet : (i : ℕ) (same : Bool) → eqb i j ≡ same → (bit s i && same) ≡ false
    meet i true t = rw (eqb-true i j t, e)
    meet i false t = and-false (bit s i)

    apart : (i : ℕ) → bit (bit_and s (2 ^ j)) i ≡ bit 0 i
    apart i = bit-and s (2 ^ j) i ∙ ap (λ (x : Bool). bit s i && x) (bit-pow j i) ∙ meet i (eqb i j) refl ∙ sym (bit-none i)

-- ---- two words joined

-- with k elements in the low word: those below k are the low word's, and those from k on the high one's
pub bit-joined-low : (k low high i : ℕ) → low < 2 ^ k → i < k → bit (high * 2 ^ k + low) i ≡ bit low i
bit-joined-low k low high i h l = rw (← or_shifted high k low h, bit-or, bit-shl-below high k i l)

pub bit-joined-high : (k low high i : ℕ) → low < 2 ^ k → bit (high * 2 ^ k + low) (k + i) ≡ bit high i
bit-joined-high k low high i h = rw (← bit-shr (high * 2 ^ k + low) k i, Pow.high high k h)
