-- Laws of `set_where`: its elements are those below k that pass the test, so it is the one set with them.
-- Assumes nothing.
use mathlib.Core.Path.{◌≡◌, refl, sym, ap, ◌∙◌}
use mathlib.Core.Bool.{Bool, true, false, ◌||◌, or_comm}
use Prim.Native.Nat.{ℕ, zero, suc, ◌+◌, ◌*◌, ◌^◌, ◌<◌}
use native.Mathlib.Decide.{dec_lt}
use native.Mathlib.Nat.{pow-succ'}
use native.Mathlib.Omega.{arith}
use borrow.Author.Tests.{ne_eqb, eq-eqb}
use lib.Dec.{eqb}
use Rattle.sets.specs.Sets.{bit, digit, set_where}
use Rattle.sets.proofs.Laws.{bit-add, bit_past, bit-ext}
use Rattle.sets.proofs.Bools.{or_right}

module _ (test : ℕ → Bool) where
  -- law: it is below 2^k
  pub set-lt : (k : ℕ) → set_where test k < 2 ^ k
  unfolding set_where
  set-lt zero = omega arith
  set-lt (suc k) = go (test k) (set-lt k)
    where
      go : (b : Bool) → set_where test k < 2 ^ k → set_where test k + digit b * 2 ^ k < 2 ^ suc k
      go true h = omega (arith, pow-succ' 2 k)
      go false h = omega (arith, pow-succ' 2 k)

  -- law: i below k is an element exactly where it passes the test
  pub set-bit : (k i : ℕ) → i < k → bit (set_where test k) i ≡ test i
  unfolding set_where
  set-bit zero i h = absurd (omega arith)
  set-bit (suc k) i h = go (test k) refl (set-bit k i) (dec_lt i k)
    where
      lacks : bit (set_where test k) k ≡ false
      lacks = bit_past (set_where test k) k k (set-lt k) (omega arith)

      go : (b : Bool) → test k ≡ b → (i < k → bit (set_where test k) i ≡ test i) → Dec (i < k) → bit (set_where test k + digit b * 2 ^ k) i ≡ test i
      go true e ih (yes l) =
          ap (λ (x : ℕ). bit (set_where test k + x) i) one
          ∙ bit-add (set_where test k) k i lacks
          ∙ ap (λ (x : Bool). bit (set_where test k) i || x) (ne_eqb i k (λ s. omega arith))
          ∙ or_comm (bit (set_where test k) i) false
          ∙ ih l
        where
          one : 1 * 2 ^ k ≡ 2 ^ k
          one = omega arith
      go true e ih (no n) =
          ap (λ (x : ℕ). bit (set_where test k + x) i) one
          ∙ bit-add (set_where test k) k i lacks
          ∙ or_right (bit (set_where test k) i) (eqb i k) (eq-eqb i k last)
          ∙ sym (ap test last ∙ e)
        where
          one : 1 * 2 ^ k ≡ 2 ^ k
          one = omega arith

          last : i ≡ k
          last = omega arith
      go false e ih (yes l) = ap (λ (x : ℕ). bit x i) none ∙ ih l
        where
          none : set_where test k + 0 * 2 ^ k ≡ set_where test k
          none = omega arith
      go false e ih (no n) = ap (λ (x : ℕ). bit x i) none ∙ ap (bit (set_where test k)) last ∙ lacks ∙ sym (ap test last ∙ e)
        where
          none : set_where test k + 0 * 2 ^ k ≡ set_where test k
          none = omega arith

          last : i ≡ k
          last = omega arith

  -- law: and there is no other set below 2^k with these elements
  pub set_is : (k x : ℕ) → x < 2 ^ k → ((i : ℕ) → i < k → bit x i ≡ test i) → x ≡ set_where test k
  set_is k x h e = bit-ext k x (set_where test k) h (set-lt k) (λ i l. e i l ∙ sym (set-bit k i l))
