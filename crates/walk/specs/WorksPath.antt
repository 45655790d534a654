-- The "works" path of a branch: the events still to be decided work, one after the other, as long as the mass is at least the threshold.
-- Assumes nothing.
use Rattle.std.specs.Prelude.{true, false, List, [], ◌∷◌, ℕ, suc, ltb, replicate}
use Rattle.mass.specs.Split.{working}
use Rattle.plan.specs.Plan.{Event}
use Rattle.walk.specs.Ends.{End, dropped, relevant}

-- how many events it decides: t is the threshold, m the mass that it starts from
unfoldable pub path_steps : ℕ → ℕ → List Event → ℕ
path_steps t m [] = 0
path_steps t m (e ∷ events) = elim (ltb m t) [ true ↦ 0 | false ↦ suc (path_steps t (working m e.probability) events) ]

-- the mass where it stops
unfoldable pub path_mass : ℕ → ℕ → List Event → ℕ
path_mass t m [] = m
path_mass t m (e ∷ events) = elim (ltb m t) [ true ↦ m | false ↦ path_mass t (working m e.probability) events ]

-- its end, where it stops at the mass m: n events work
unfoldable pub path_end : ℕ → ℕ → ℕ → End
path_end t m n = elim (ltb m t) [ true ↦ dropped | false ↦ relevant (replicate n false) m ]
