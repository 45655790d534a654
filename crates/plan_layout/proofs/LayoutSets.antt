-- Sets and rising lists: the elements of a set rise, and a rising list of numbers is the list of the elements of its set.
-- Assumes nothing.
use mathlib.Core.Path.{◌≡◌, refl, ap, ◌∙◌}
use mathlib.Core.Logic.{◌⊎◌, inl, inr}
use mathlib.Core.List.{List, [], ◌∷◌}
use Prim.Native.Nat.{ℕ, zero, suc, ◌+◌, ◌-◌, ◌*◌, ◌/◌, ◌%◌, ◌^◌, ◌<◌, ◌≤◌}
use native.Mathlib.Nat.{pow-suc, sub-zero, mul-le-mul_left}
use native.Mathlib.Decide.{ℕ_discrete, dec_lt}
use native.Mathlib.Omega.{arith}
use borrow.Author.Tests.{eq-eqb, ne_eqb}
use lib.Pow.{pow_mono}
use lib.ListN.{length}
use Rattle.plan.specs.Layout.{elements}

-- the numbers of the list rise strictly from `from` on, and all are below `limit`
abbrev pub Rising : ℕ → ℕ → List ℕ → Type 0
Rising from limit [] = Unit {0}
Rising from limit (i ∷ is) = (from ≤ i) × (i < limit) × Rising (suc i) limit is

-- the set of the numbers of a list, each moved down by `from`
unfoldable pub moved : ℕ → List ℕ → ℕ
moved from [] = 0
moved from (i ∷ is) = 2 ^ (i - from) + moved from is

moved-nil : (from : ℕ) → moved from [] ≡ 0
unfolding moved
moved-nil from = refl

moved-cons : (from i : ℕ) (is : List ℕ) → moved from (i ∷ is) ≡ 2 ^ (i - from) + moved from is
unfolding moved
moved-cons from i is = refl

pub parity : (s : ℕ) → (s % 2 ≡ 0) ⊎ (s % 2 ≡ 1)
parity s = go (ℕ_discrete (s % 2) 1)
  where
    go : Dec (s % 2 ≡ 1) → (s % 2 ≡ 0) ⊎ (s % 2 ≡ 1)
    go (yes e) = inr e
    go (no n) = inl (omega arith)

pub elements-odd : (count from s : ℕ) → s % 2 ≡ 1 → elements (suc count) from s ≡ from ∷ elements count (suc from) (s / 2)
unfolding elements
elements-odd count from s e = rw (eq-eqb (s % 2) 1 e)

pub elements-even : (count from s : ℕ) → s % 2 ≡ 0 → elements (suc count) from s ≡ elements count (suc from) (s / 2)
unfolding elements
elements-even count from s e = rw (ne_eqb (s % 2) 1 (λ z. omega arith))

pub rising-weaken : (a b limit : ℕ) (is : List ℕ) → a ≤ b → Rising b limit is → Rising a limit is
rising-weaken a b limit [] h r = tt
rising-weaken a b limit (i ∷ is) h r = (omega (arith, r.0), r.1, r.2)

pub length-rising : (from limit : ℕ) (is : List ℕ) → Rising from limit is → length is ≤ limit - from
length-rising from limit [] r = omega arith
length-rising from limit (i ∷ is) r = omega (arith, length-rising (suc i) limit is r.2, r.0, r.1)

pub pow_below : (a b : ℕ) → 2 ^ a < 2 ^ b → a < b
pow_below a b h = go (dec_lt a b)
  where
    go : Dec (a < b) → a < b
    go (yes l) = l
    go (no n) = let back : b ≤ a = omega arith in omega (arith, pow_mono back)

half_le : (s : ℕ) → 2 * (s / 2) ≤ s
half_le s = omega arith

double : (k x : ℕ) → 2 ^ suc k * x ≡ 2 ^ k * (2 * x)
double k x = rw pow-suc (omega arith)

halved : (from s limit : ℕ) → 2 ^ from * s < 2 ^ limit → 2 ^ suc from * (s / 2) < 2 ^ limit
halved from s limit h = omega (arith, double from (s / 2), mul-le-mul_left (2 ^ from) (half_le s))

odd-below : (from s limit : ℕ) → s % 2 ≡ 1 → 2 ^ from * s < 2 ^ limit → from < limit
odd-below from s limit e h =
    let one : 1 ≤ s = omega arith in
    pow_below from limit (omega (arith, mul-le-mul_left (2 ^ from) one))

-- the elements of a set below 2^limit rise
pub elements-rising : (count from s limit : ℕ) → 2 ^ from * s < 2 ^ limit → Rising from limit (elements count from s)
elements-rising zero from s limit h = unfold elements in tt
elements-rising (suc count) from s limit h =
    go (parity s) (elements-rising count (suc from) (s / 2) limit (halved from s limit h))
  where
    go : (s % 2 ≡ 0) ⊎ (s % 2 ≡ 1) → Rising (suc from) limit (elements count (suc from) (s / 2))
        → Rising from limit (elements (suc count) from s)
    go (inl e) rest =
        rw (elements-even count from s e)
        (rising-weaken from (suc from) limit (elements count (suc from) (s / 2)) (omega arith) rest)
    go (inr e) rest = rw (elements-odd count from s e) (omega arith, odd-below from s limit e h, rest)

-- the set of the elements is the set
pub moved-elements : (count from s : ℕ) → s < 2 ^ count → moved 0 (elements count from s) ≡ 2 ^ from * s
moved-elements zero from s h = unfold elements moved in let z : s ≡ 0 = omega arith in rw z (omega arith)
moved-elements (suc count) from s h =
    go (parity s) (moved-elements count (suc from) (s / 2) (omega arith))
  where
    go : (s % 2 ≡ 0) ⊎ (s % 2 ≡ 1) → moved 0 (elements count (suc from) (s / 2)) ≡ 2 ^ suc from * (s / 2)
        → moved 0 (elements (suc count) from s) ≡ 2 ^ from * s
    go (inl e) rest =
        let twice : 2 * (s / 2) ≡ s = omega arith in
        rw (elements-even count from s e, rest) (double from (s / 2) ∙ ap (λ (x : ℕ). 2 ^ from * x) twice)
    go (inr e) rest =
        let twice : 1 + 2 * (s / 2) ≡ s = omega arith in
        rw (elements-odd count from s e)
        (rw (moved-cons, rest, sub-zero) (omega (arith, double from (s / 2), ap (λ (x : ℕ). 2 ^ from * x) twice)))

moved-suc : (from limit : ℕ) (is : List ℕ) → Rising (suc from) limit is → moved from is ≡ 2 * moved (suc from) is
unfolding moved
moved-suc from limit [] r = refl
moved-suc from limit (i ∷ is) r =
    let down : i - from ≡ suc (i - suc from) = omega (arith, r.0) in
    let up : Rising (suc from) limit is = rising-weaken (suc from) (suc i) limit is (omega (arith, r.0)) r.2 in
    rw (down, moved-suc from limit is up) (omega arith)

-- a rising list is the list of the elements of its set
pub elements-moved : (count from limit : ℕ) (is : List ℕ) → limit ≤ from + count → Rising from limit is
    → elements count from (moved from is) ≡ is
elements-moved zero from limit [] h r = unfold elements in refl
elements-moved zero from limit (i ∷ is) h r = absurd (never r.0 r.1)
  where
    never : from ≤ i → i < limit → ⊥
    never a b = omega arith
elements-moved (suc count) from limit [] h r =
    rw (moved-nil from, elements-even count from 0 refl, ← moved-nil (suc from)) (elements-moved count (suc from) limit [] (omega arith) tt)
elements-moved (suc count) from limit (i ∷ is) h r =
    go (ℕ_discrete i from) (elements-moved count (suc from) limit is (omega arith))
    (elements-moved count (suc from) limit (i ∷ is) (omega arith))
  where
    go : Dec (i ≡ from) → (Rising (suc from) limit is → elements count (suc from) (moved (suc from) is) ≡ is)
        → (Rising (suc from) limit (i ∷ is) → elements count (suc from) (moved (suc from) (i ∷ is)) ≡ i ∷ is)
        → elements (suc count) from (moved from (i ∷ is)) ≡ i ∷ is
    go (yes e) here later =
        let up : Rising (suc from) limit is = rising-weaken (suc from) (suc i) limit is (omega arith) r.2 in
        let flat : i - from ≡ 0 = omega arith in
        let sum : moved from (i ∷ is) ≡ 1 + 2 * moved (suc from) is = rw (moved-cons, flat, moved-suc from limit is up) in
        let half : (1 + 2 * moved (suc from) is) / 2 ≡ moved (suc from) is = omega arith in
        rw (sum, elements-odd count from (1 + 2 * moved (suc from) is) (omega arith), half, here up, e)
    go (no n) here later =
        let up : Rising (suc from) limit (i ∷ is) = (omega (arith, r.0), r.1, r.2) in
        let half : 2 * moved (suc from) (i ∷ is) / 2 ≡ moved (suc from) (i ∷ is) = omega arith in
        rw
        (moved-suc from limit (i ∷ is) up, elements-even count from (2 * moved (suc from) (i ∷ is)) (omega arith), half, later up)

-- the set of a rising list is below 2^limit
pub moved-lt : (from limit : ℕ) (is : List ℕ) → from ≤ limit → Rising from limit is → 2 ^ from + moved 0 is ≤ 2 ^ limit
unfolding moved
moved-lt from limit [] h r = omega (arith, pow_mono h)
moved-lt from limit (i ∷ is) h r =
    let rest : 2 ^ suc i + moved 0 is ≤ 2 ^ limit = moved-lt (suc i) limit is r.1 r.2 in
    rw sub-zero (omega (arith, pow_mono r.0))
