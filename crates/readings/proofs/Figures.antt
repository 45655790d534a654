-- The conditional figure: from the code's floats to those of the definition, and from the bounds of a pair to E.
-- Assumes nothing.
use Rattle.std.specs.Prelude.{Option}
use mathlib.Core.Path.{◌≡◌, refl, ap, ap₂, ◌∙◌}
use Prim.Native.Nat.{ℕ, zero, suc, ◌+◌, ◌-◌, ◌/◌, ◌%◌, ◌^◌, ◌≤◌}
use native.Mathlib.Omega.{arith}
use lib.Dec.{T, le→leb}
use lib.IntN.{pos}
use lib.Ieee.{Float, binary64, add, mul, div, of_int, of_bits, in_float}
use Rattle.mass.specs.Split.{certain, whole}
use Rattle.plan.specs.Plan.{Plan}
use Rattle.plan.specs.LentLists.{plan_refusal}
use Rattle.network.specs.Outage.{intact}
use Rattle.walk.specs.Walk.{mass_examined}
use Rattle.bounds.specs.Bounds.{lower_of, upper_of}
use Rattle.bounds.specs.Calls.{bounds_of}
use Rattle.bounds.specs.declared.PairBounds.{PairBounds}
use Rattle.bounds.proofs.Answers.{raised, mass-most}
use Rattle.readings.specs.Figure.{float, float_of, shares_of, figure_given, figure_of, floats_in, Numbers}
use Rattle.readings.proofs.FigureLaws.{shares-numbers}
use Rattle.readings.specs.declared.Shares.{Shares}

-- ---- the code's floats

-- a number of at most 2^53 may be cast
pub in-float : (n : ℕ) → n ≤ 2 ^ 53 → T (in_float binary64 (pos n))
unfolding in_float
in-float n h = le→leb n (2 ^ 53) h

-- 10^9 and 10^18 as MIR has them, by their bit patterns
pub billion-is : of_bits binary64 0x41cd_cd65_0000_0000 ≡ float certain
unfolding of_bits of_int
billion-is = refl

pub whole_is : of_bits binary64 0x43ab_c16d_674e_c800 ≡ float whole
unfolding of_bits of_int
whole_is = refl

pub float-of-is : (m : ℕ) (c : Float) → c ≡ float certain
    → add binary64 (mul binary64 (float (m / certain)) c) (float (m % certain)) ≡ float_of m
unfolding float_of
float-of-is m c e = ap (λ (x : Float). add binary64 (mul binary64 (float (m / certain)) x) (float (m % certain))) e

pub shares-are : (lower examined : ℕ) (x y c : Float) → x ≡ float_of lower → y ≡ float_of examined → c ≡ float whole
    → (record { disconnected = div binary64 x y; examined = div binary64 y c }) ≡ shares_of lower examined
shares-are lower examined x y c l e w = λ i. record { disconnected = div binary64 (l i) (e i); examined = div binary64 (e i) (w i) }

-- ---- the figure

-- no float of a figure is a NaN
numbers : (lower examined : ℕ) → lower ≤ whole → examined ≤ whole → Numbers (floats_in (figure_given examined (shares_of lower examined)))
numbers lower zero l e = tt
numbers lower (suc examined) l e = let n = shares-numbers lower (suc examined) l e (omega arith) in (n.0, (n.1, tt))

-- from the bounds of a pair of an accepted plan
module _ (p : Plan) (v w : ℕ) (b : PairBounds) (valid : plan_refusal p ≡ 0) (is : b ≡ bounds_of intact p v w)
    (ordered : (b.lower ≤ b.upper) × (b.upper ≤ whole)) where
  lower-is : b.lower ≡ lower_of intact p v w
  lower-is = ap (λ (x : PairBounds). x.lower) is

  upper_is : b.upper ≡ upper_of intact p v w
  upper_is = ap (λ (x : PairBounds). x.upper) is

  -- upper + E = lower + 10^18
  examined-is : b.lower + (whole - b.upper) ≡ mass_examined p
  examined-is = omega (arith, ordered.1, lower-is, upper_is, raised intact p valid v w, mass-most p valid)

  pub examined-fits : b.lower + (whole - b.upper) ≤ whole
  examined-fits = omega (arith, examined-is, mass-most p valid)

  pub figure_is : (f : Option Shares) → f ≡ figure_given (b.lower + (whole - b.upper)) (shares_of b.lower (b.lower + (whole - b.upper)))
      → f ≡ figure_of intact p v w
  figure_is f e = e ∙ ap₂ (λ (x y : ℕ). figure_given x (shares_of y x)) examined-is lower-is

  pub figure-numbers : (f : Option Shares) → f ≡ figure_given (b.lower + (whole - b.upper)) (shares_of b.lower (b.lower + (whole - b.upper)))
      → Numbers (floats_in f)
  figure-numbers f e = rw e (numbers b.lower (b.lower + (whole - b.upper)) (omega (arith, ordered)) examined-fits)
