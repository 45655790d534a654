-- "At most one unit is lost": document 01, section "Units and the splitting of mass".
-- Assumes nothing.
use mathlib.Core.Path.{◌≡◌, ap}
use Prim.Native.Nat.{ℕ, ◌+◌, ◌-◌, ◌*◌, ◌≤◌}
use native.Mathlib.Omega.{arith}
use Rattle.mass.specs.Split.{certain, failing, working}
use Rattle.mass.specs.declared.BothParts.{BothParts}

whole_of : (q : ℕ) → q ≤ certain → q + (certain - q) ≡ certain
whole_of q h = omega arith

module _ (m q : ℕ) (fits : q ≤ certain) where
  -- the products before rounding: nothing is lost
  pub products : m * q + m * (certain - q) ≡ m * certain
  products = omega (arith, ap (λ (x : ℕ). m * x) (whole_of q fits))

  -- the parts sum to at most the mass
  pub parts-le : failing m q + working m q ≤ m
  parts-le = omega (arith, products)

  -- "At most one unit is lost."
  pub parts-lose : m ≤ failing m q + working m q + 1
  parts-lose = omega (arith, products)

  -- mass never grows on a split
  pub fails-le : failing m q ≤ m
  fails-le = omega (arith, parts-le)

  pub works-le : working m q ≤ m
  works-le = omega (arith, parts-le)

-- splits that are equal have equal parts
pub same-fails : {r s : BothParts} → r ≡ s → r.fails.units ≡ s.fails.units
same-fails e = ap (λ (b : BothParts). b.fails.units) e

pub same-works : {r s : BothParts} → r ≡ s → r.works.units ≡ s.works.units
same-works e = ap (λ (b : BothParts). b.works.units) e
