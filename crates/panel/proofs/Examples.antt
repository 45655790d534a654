-- Computed examples: the bounds that a look shows, at given numbers.
-- Assumes nothing.
use mathlib.Core.Path.{◌≡◌, refl}
use Rattle.mass.specs.Split.{whole}
use Rattle.panel.specs.Calls.{may_show, bounds_shown}

-- a mass of 600 units of which 200 cut the pair off; more nodes than a plan has
example-shown : (bounds_shown 3 600 200 ≡ record { lower = 200; upper = 999999999999999600 })
    × (bounds_shown 65 600 200 ≡ record { lower = 0; upper = whole })
unfolding bounds_shown may_show
example-shown = (refl, refl)
