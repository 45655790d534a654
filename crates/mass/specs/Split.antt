-- Units and the splitting of mass: document 01, section "Units and the splitting of mass".
-- Assumes nothing.
use Rattle.std.specs.Prelude.{[], ◌∷◌, ℕ, ◌-◌, ◌*◌, ◌/◌, ltb}
use Rattle.mass.specs.Refusal.{refuse, first}
use Rattle.mass.specs.declared.Mass.{Mass}
use Rattle.mass.specs.declared.BothParts.{BothParts}

-- an event probability of 1, in units of 10^-9
abbrev pub certain : ℕ
certain = 1000000000

-- "one whole": a mass of 1, in units of 10^-18
abbrev pub whole : ℕ
whole = 1000000000000000000

-- the part of the mass m that goes to "fails" at an event of probability q
abbrev pub failing : ℕ → ℕ → ℕ
failing m q = m * q / certain

-- the part of the mass m that goes to "works"
abbrev pub working : ℕ → ℕ → ℕ
working m q = m * (certain - q) / certain

-- refusal 16: a mass above one whole
abbrev pub mass_test : ℕ → ℕ
mass_test m = refuse (ltb whole m) 16

-- refusal 8: a probability above 1
abbrev pub probability_test : ℕ → ℕ
probability_test q = refuse (ltb certain q) 8

-- the order of the tests of a split
abbrev pub split_refusal : ℕ → ℕ → ℕ
split_refusal m q = first (mass_test m ∷ probability_test q ∷ [])

-- a mass of m units
abbrev pub units : ℕ → Mass
units m = record { units = m }

-- the split itself: both parts of the mass m at an event of probability q
abbrev pub both_parts : ℕ → ℕ → BothParts
both_parts m q = record { fails = units (failing m q); works = units (working m q) }
