-- Laws of Bools that the laws of sets are used with: what a true "and", "or" or "not" says, and the search below a number.
-- Assumes nothing.
use mathlib.Core.Path.{◌≡◌, refl, sym, ap, ◌∙◌}
use mathlib.Core.Bool.{Bool, true, false, not, ◌&&◌, ◌||◌, true≢false, false≢true}
use mathlib.Core.Logic.{◌⊎◌, inl, inr}
use Prim.Native.Nat.{ℕ, zero, suc, ◌<◌}
use native.Mathlib.Omega.{arith}
use native.Mathlib.Decide.{dec_lt}
use Rattle.sets.specs.Sets.{any_below}

pub and_left : (a b : Bool) → (a && b) ≡ true → a ≡ true
and_left true b e = refl
and_left false b e = e

pub and_right : (a b : Bool) → (a && b) ≡ true → b ≡ true
and_right true b e = e
and_right false b e = absurd (false≢true e)

pub and_both : (a b : Bool) → a ≡ true → b ≡ true → (a && b) ≡ true
and_both true b e f = f
and_both false b e f = e

pub or-either : (a b : Bool) → (a || b) ≡ true → (a ≡ true) ⊎ (b ≡ true)
or-either true b e = inl refl
or-either false b e = inr e

pub or_left : (a b : Bool) → a ≡ true → (a || b) ≡ true
or_left true b e = refl
or_left false b e = absurd (false≢true e)

pub or_right : (a b : Bool) → b ≡ true → (a || b) ≡ true
or_right true b e = refl
or_right false b e = e

-- a Bool is true or false, and not both
pub which : (a : Bool) → (a ≡ true) ⊎ (a ≡ false)
which true = inl refl
which false = inr refl

pub clash : {a : Bool} → a ≡ true → a ≡ false → ⊥
clash e f = true≢false (sym e ∙ f)

pub not_so : (a : Bool) → (a ≡ true → ⊥) → a ≡ false
not_so true n = absurd (n refl)
not_so false n = refl

pub so-unless : (a : Bool) → (a ≡ false → ⊥) → a ≡ true
so-unless true n = refl
so-unless false n = absurd (n refl)

pub not-of : (a : Bool) → a ≡ false → not a ≡ true
not-of true e = sym e
not-of false e = refl

pub of-not : (a : Bool) → not a ≡ true → a ≡ false
of-not true e = sym e
of-not false e = refl

-- two Bools that are true together are equal
pub same_bool : (a b : Bool) → (a ≡ true → b ≡ true) → (b ≡ true → a ≡ true) → a ≡ b
same_bool true b f g = sym (f refl)
same_bool false true f g = g refl
same_bool false false f g = refl

module _ (p : ℕ → Bool) where
  -- law: it does exactly where one such number can be named
  pub any_found : (k : ℕ) → any_below p k ≡ true → (i : ℕ) × (i < k) × (p i ≡ true)
  unfolding any_below
  any_found zero e = absurd (false≢true e)
  any_found (suc k) e = go (any_found k) (or-either (p k) (any_below p k) e)
    where
      go : (any_below p k ≡ true → (i : ℕ) × (i < k) × (p i ≡ true)) → (p k ≡ true) ⊎ (any_below p k ≡ true) → (i : ℕ) × (i < suc k) × (p i ≡ true)
      go ih (inl h) = (k, omega arith, h)
      go ih (inr h) =
          let f = ih h in
          (f.0, omega (arith, f.1), f.2)

  pub any_here : (k i : ℕ) → i < k → p i ≡ true → any_below p k ≡ true
  unfolding any_below
  any_here zero i h e = absurd (omega arith)
  any_here (suc k) i h e = go (any_here k i) (which-lt i k h)
    where
      which-lt : (i k : ℕ) → i < suc k → (i ≡ k) ⊎ (i < k)
      which-lt i k h = last (dec_lt i k)
        where
          last : Dec (i < k) → (i ≡ k) ⊎ (i < k)
          last (yes l) = inr l
          last (no n) = inl (omega arith)

      go : (i < k → p i ≡ true → any_below p k ≡ true) → (i ≡ k) ⊎ (i < k) → (p k || any_below p k) ≡ true
      go ih (inl s) = or_left (p k) (any_below p k) (ap p (sym s) ∙ e)
      go ih (inr l) = or_right (p k) (any_below p k) (ih l e)
