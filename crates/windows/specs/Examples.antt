-- Computed examples of windows: touching and overlapping ones, and the edges of the week. Those of each refusal stand in
-- `proofs/Examples.antt`.
-- Assumes nothing.
use Rattle.std.specs.Prelude.{◌≡◌, refl, List, [], ◌∷◌, ℕ}
use Rattle.network.specs.Outage.{Outage, intact}
use Rattle.windows.specs.Windows.{windows_of, out_at, taken_out}

abbrev out : ℕ → ℕ → Outage
out nodes links = record { nodes = nodes; links = links }

-- node 0 from minute 10 to 19, link 64 and link 0 from 15 to 24, node 1 from 20 to 20: the second window overlaps the first, the third
-- touches it
abbrev work : List ℕ
work = 10 ∷ 20 ∷ 1 ∷ 0 ∷ 0 ∷ 15 ∷ 25 ∷ 0 ∷ 1 ∷ 1 ∷ 20 ∷ 21 ∷ 2 ∷ 0 ∷ 0 ∷ []

-- before any, at the first minute of one, in two at once, at the minute where one ends and another starts, and after all
example-out : (taken_out work 9 ≡ intact) × (taken_out work 10 ≡ out 1 0)
    × (taken_out work 19 ≡ out 1 18446744073709551617) × (taken_out work 20 ≡ out 2 18446744073709551617)
    × (taken_out work 24 ≡ out 0 18446744073709551617) × (taken_out work 25 ≡ intact)
unfolding windows_of out_at
example-out = (refl, refl, refl, refl, refl, refl)

-- a window of the whole week holds its first and its last minute
example-week : (taken_out (0 ∷ 10080 ∷ 1 ∷ 0 ∷ 0 ∷ []) 0 ≡ out 1 0) × (taken_out (0 ∷ 10080 ∷ 1 ∷ 0 ∷ 0 ∷ []) 10079 ≡ out 1 0)
unfolding windows_of out_at
example-week = (refl, refl)
