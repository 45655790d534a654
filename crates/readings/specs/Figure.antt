-- Conditional figure: document 01, section "Further readings of a plan" (document 001, equation 6). It is no bound: the scenarios that
-- were not examined are left out of it. Floats are those of the logic's account of IEEE 754: a value of binary64 is one bit pattern, but
-- for NaN.
-- Assumes nothing.
use Rattle.std.specs.Prelude.{not, List, [], ◌∷◌, ℕ, zero, suc, ◌/◌, ◌%◌, T, pos, Float, Option, Some, None}
use Rattle.std.specs.Float.{binary64}
use Rattle.std.specs.Float.Ieee.{add, mul, div, of_int, is_nan}
use Rattle.mass.specs.Split.{certain, whole}
use Rattle.plan.specs.Plan.{Plan}
use Rattle.network.specs.Outage.{Outage}
use Rattle.walk.specs.Walk.{mass_examined}
use Rattle.bounds.specs.Bounds.{lower_of}
use Rattle.readings.specs.declared.Shares.{Shares}

-- a whole number as a float, rounded once where the format does not hold it
abbrev pub float : ℕ → Float
float n = of_int binary64 (pos n)

-- F: "m div 10^9 as a float, times 10^9, plus m mod 10^9 as a float, in that order"
unfoldable pub float_of : ℕ → Float
float_of m = add binary64 (mul binary64 (float (m / certain)) (float certain)) (float (m % certain))

-- the pair of floats for a lower bound and E: F(lower) ÷ F(E), and F(E) ÷ 10^18
abbrev pub shares_of : ℕ → ℕ → Shares
shares_of lower examined = record {
  disconnected = div binary64 (float_of lower) (float_of examined);
  examined = div binary64 (float_of examined) (float whole);
}

-- the figure for E and the pair of floats: none if E = 0, else the pair
abbrev pub figure_given : ℕ → Shares → Option Shares
figure_given zero shares = None
figure_given (suc examined) shares = Some shares

-- the floats of a figure; there are none where there is no figure
abbrev pub floats_in : Option Shares → List Float
floats_in None = []
floats_in (Some shares) = shares.disconnected ∷ shares.examined ∷ []

-- the figure of the pair (v, w) of a plan
abbrev pub figure_of : Outage → Plan → ℕ → ℕ → Option Shares
figure_of out p v w = figure_given (mass_examined p) (shares_of (lower_of out p v w) (mass_examined p))

-- no float of a list is a NaN
abbrev pub Numbers : List Float → Type 0
Numbers [] = Unit {0}
Numbers (x ∷ xs) = T (not (is_nan x)) × Numbers xs
