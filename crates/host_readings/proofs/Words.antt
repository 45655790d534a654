-- A signed number as an unsigned word: what the steps of `word_of` give. A local holds the bits of a signed number, `of_z`, and each step reads
-- the number from them, `to_z`.
-- Assumes nothing.
use mathlib.Core.Path.{◌≡◌, refl, sym, ap, subst, ◌∙◌}
use mathlib.Core.Bool.{true, false}
use Prim.Native.Nat.{ℕ, zero, suc, ◌-◌, ◌^◌, ◌<◌}
use native.Mathlib.Omega.{arith}
use borrow.Author.Tests.{leb-false}
use lib.Dec.{T}
use lib.IntN.{ℤ, pos, negsuc, suc_ℤ, neg_ℤ, nat_abs, ◌+ℤ◌, ◌-ℤ◌, +ℤ_one, +ℤ_idl, neg_ℤ-neg_ℤ}
use lib.Signed.{le_z, non_neg}
use mir.Syntax.{w64}
use mir.Val.{Fits, SFits, to_z, of_z}
use mir.Facts.{to_z-of_z, Fits-nat_abs}
use Rattle.host_readings.specs.CreditAnswers.{word_of}

-- a number that is not below 0
kept-as : (y : ℤ) → le_z (pos 0) y ≡ true → T (non_neg y) × (nat_abs y ≡ word_of y)
kept-as (pos n) e = (tt, refl)
kept-as (negsuc n) e = absurd (mathlib.Core.Bool.true≢false (sym e))

-- a number that is: −(less + 1)
pub record Below (z : ℤ) : Type 0 where
  pub less : ℕ
  pub is : z ≡ negsuc less
  pub small : less < 2 ^ 63

below_as : (y : ℤ) → SFits w64 y → le_z (pos 0) y ≡ false → Below y
below_as (pos n) f e = absurd (let h : n < 0 = leb-false 0 n e in omega arith)
below_as (negsuc n) f e = record { less = n; is = refl; small = f.sfits }

-- one more than −(n + 1) is −n
one_more : (n : ℕ) → suc_ℤ (negsuc n) ≡ neg_ℤ (pos n)
one_more zero = refl
one_more (suc n) = refl

negated_fits : (n : ℕ) → n < 2 ^ 63 → SFits w64 (neg_ℤ (pos n))
negated_fits zero h = record { sfits = h }
negated_fits (suc n) h = record { sfits = omega arith }

module _ (z : ℤ) (f : SFits w64 z) where
  abbrev number : ℤ
  number = to_z w64 (of_z w64 z)

  same : number ≡ z
  same = to_z-of_z f

  number_fits : SFits w64 number
  number_fits = subst (SFits w64) (sym same) f

  pub kept-fits : le_z (to_z w64 0) number ≡ true → T (non_neg number) × Fits w64 (nat_abs number)
  kept-fits e = ((kept-as number e).0, Fits-nat_abs tt number_fits)

  pub kept : le_z (to_z w64 0) number ≡ true → nat_abs number ≡ word_of z
  kept e = (kept-as number e).1 ∙ ap word_of same

  module _ (e : le_z (to_z w64 0) number ≡ false) where
    below : Below number
    below = below_as number number_fits e

    -- number + 1 is −less
    abbrev raised : ℤ
    raised = number +ℤ to_z w64 1

    raised_is : raised ≡ neg_ℤ (pos below.less)
    raised_is = +ℤ_one number ∙ ap suc_ℤ below.is ∙ one_more below.less

    pub raised-fits : SFits w64 raised
    raised-fits = subst (SFits w64) (sym raised_is) (negated_fits below.less below.small)

    -- 0 less that is `less`
    abbrev turned : ℤ
    turned = to_z w64 0 -ℤ to_z w64 (of_z w64 raised)

    turned-is : turned ≡ pos below.less
    turned-is =
        ap (λ (y : ℤ). pos 0 -ℤ y) (to_z-of_z raised-fits ∙ raised_is)
        ∙ +ℤ_idl (neg_ℤ (neg_ℤ (pos below.less)))
        ∙ neg_ℤ-neg_ℤ (pos below.less)

    pub turned-fits : SFits w64 turned
    turned-fits = subst (SFits w64) (sym turned-is) (record { sfits = below.small })

    -- as an unsigned number
    abbrev last : ℤ
    last = to_z w64 (of_z w64 turned)

    last-is : last ≡ pos below.less
    last-is = to_z-of_z turned-fits ∙ turned-is

    pub last_fits : T (non_neg last) × Fits w64 (nat_abs last)
    last_fits = (
      subst (λ (y : ℤ). T (non_neg y)) (sym last-is) tt,
      Fits-nat_abs tt (subst (SFits w64) (sym (to_z-of_z turned-fits)) turned-fits),
    )

    last_less : nat_abs last ≡ below.less
    last_less = ap nat_abs last-is

    pub last-small : nat_abs last < 2 ^ 63
    last-small = omega (arith, last_less, below.small)

    pub word : 18446744073709551615 - nat_abs last ≡ word_of z
    word =
        let is : 18446744073709551615 - nat_abs last ≡ 2 ^ 64 - suc below.less = omega (arith, last_less, below.small) in
        is ∙ ap word_of (sym below.is ∙ same)
