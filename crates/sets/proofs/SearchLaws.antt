-- Laws of the search for the first number that passes a test, and of how many do.
-- Assumes nothing.
use mathlib.Core.Path.{◌≡◌, refl, sym, ap, ◌∙◌}
use mathlib.Core.Bool.{Bool, true, false}
use Prim.Native.Nat.{ℕ, zero, suc, ◌+◌, ◌≤◌, ◌<◌}
use native.Mathlib.Omega.{arith}
use native.Mathlib.Decide.{dec_lt}
use Rattle.sets.specs.Sets.{digit, first_below}
use Rattle.sets.proofs.Bools.{clash}

-- ---- the first number below k of which p holds

-- i is that number, or k: p holds of none before it, and of i itself where it is below k
pub record First (p : ℕ → Bool) (k i : ℕ) : Type 0 where
  pub most : i ≤ k
  pub before : (j : ℕ) → j < i → p j ≡ false
  pub holds : i < k → p i ≡ true

-- law: `first_below` finds it
pub first_found : (p : ℕ → Bool) (k : ℕ) → First p k (first_below p k)
unfolding first_below
first_found p zero = record { most = omega arith; before = λ j h. absurd (omega arith); holds = λ h. absurd (omega arith) }
first_found p (suc k) = go (p 0) refl (first_found (λ i. p (suc i)) k)
  where
    go : (b : Bool) → p 0 ≡ b → First (λ i. p (suc i)) k (first_below (λ i. p (suc i)) k)
        → First p (suc k) (elim b [ true ↦ 0 | false ↦ suc (first_below (λ i. p (suc i)) k) ])
    go true e f = record { most = omega arith; before = λ j h. absurd (omega arith); holds = λ h. e }
    go false e f = record { most = omega (arith, f.most); before = before; holds = λ h. f.holds (omega arith) }
      where
        before : (j : ℕ) → j < suc (first_below (λ i. p (suc i)) k) → p j ≡ false
        before zero h = e
        before (suc j) h = f.before j (omega arith)

-- ---- how many numbers below k pass a test

unfoldable pub size : (ℕ → Bool) → ℕ → ℕ
size p zero = 0
size p (suc k) = digit (p k) + size p k

pub size-most : (p : ℕ → Bool) (k : ℕ) → size p k ≤ k
unfolding size
size-most p zero = omega arith
size-most p (suc k) = go (p k) (size-most p k)
  where
    go : (b : Bool) → size p k ≤ k → digit b + size p k ≤ suc k
    go true h = omega arith
    go false h = omega arith

-- a number that passes is counted
pub size-some : (p : ℕ → Bool) (k w : ℕ) → w < k → p w ≡ true → 1 ≤ size p k
unfolding size
size-some p zero w h e = absurd (omega arith)
size-some p (suc k) w h e = go (λ l. size-some p k w l e) (dec_lt w k) (p k) refl
  where
    go : (w < k → 1 ≤ size p k) → Dec (w < k) → (b : Bool) → p k ≡ b → 1 ≤ digit b + size p k
    go ih (yes l) b f = omega (arith, ih l)
    go ih (no n) true f = omega arith
    go ih (no n) false f =
        let last : w ≡ k = omega arith in
        absurd (clash (ap p (sym last) ∙ e) f)

-- two tests, where the second passes what the first does
module _ (p q : ℕ → Bool) (kept : (w : ℕ) → p w ≡ true → q w ≡ true) where
  digits : (k : ℕ) → digit (p k) ≤ digit (q k)
  digits k = go (p k) (q k) refl refl
    where
      go : (a b : Bool) → p k ≡ a → q k ≡ b → digit a ≤ digit b
      go true true e f = omega arith
      go true false e f = absurd (clash (kept k e) f)
      go false b e f = omega arith

  pub size-kept : (k : ℕ) → size p k ≤ size q k
  unfolding size
  size-kept zero = omega arith
  size-kept (suc k) = omega (arith, digits k, size-kept k)

  -- and one more
  pub size-more : (k w : ℕ) → w < k → p w ≡ false → q w ≡ true → size p k < size q k
  unfolding size
  size-more zero w h e f = absurd (omega arith)
  size-more (suc k) w h e f = go (λ l. size-more k w l e f) (dec_lt w k)
    where
      go : (w < k → size p k < size q k) → Dec (w < k) → digit (p k) + size p k < digit (q k) + size q k
      go ih (yes l) = omega (arith, digits k, ih l)
      go ih (no n) =
          let last : w ≡ k = omega arith in
          omega (arith, size-kept k, ap digit (ap p (sym last) ∙ e), ap digit (ap q (sym last) ∙ f))
