-- The values that an export of a further reading hands out for an answer.
-- Assumes nothing.
use Rattle.std.specs.Prelude.{List, [], ◌∷◌, ℕ, Option, None, Some}
use Rattle.std.specs.Float.{binary64}
use Rattle.std.specs.Float.Ieee.{to_bits}
use Rattle.readings.specs.declared.Shares.{Shares}
use Rattle.readings.specs.declared.Seconds.{Seconds}
use Rattle.walk.specs.declared.Failing.{Failing}

-- a topology list: how many entries it has
abbrev pub entries_values : ℕ → List ℕ
entries_values count = count ∷ []

-- a figure: 1 and the bits of its two floats, and all 0 where there is no figure
abbrev pub figure_values : Option Shares → List ℕ
figure_values None = 0 ∷ 0 ∷ 0 ∷ []
figure_values (Some shares) = 1 ∷ to_bits binary64 shares.disconnected ∷ to_bits binary64 shares.examined ∷ []

-- a downtime: the seconds of the lower and the upper mass
abbrev pub seconds_values : Seconds → List ℕ
seconds_values seconds = seconds.lower ∷ seconds.upper ∷ []

-- a witness: the two words of its set of failing events
abbrev pub failing_values : Failing → List ℕ
failing_values set = set.low ∷ set.high ∷ []
