-- The ends of the walk: document 01, section "Scenarios".
-- Assumes nothing.
use Rattle.std.specs.Prelude.{true, false, List, [], ◌∷◌, ◌++◌, map, ℕ, ◌+◌, ◌*◌, ltb}
use Rattle.mass.specs.Split.{failing, working}
use Rattle.plan.specs.Plan.{Event}
use Rattle.walk.specs.Scenario.{Scenario}

-- an end of the walk: a dropped scenario, or a relevant one with its final mass
pub data End : Type 0 where
  dropped : End
  relevant : Scenario → ℕ → End

-- an end reached after the first events were decided as the path says
abbrev pub after : Scenario → End → End
after path dropped = dropped
after path (relevant s m) = relevant (path ++ s) m

-- the ends of two branches in turn: those where the next event works, then those where it fails
abbrev pub both_sides : List End → List End → List End
both_sides works fails = map (after (false ∷ [])) works ++ map (after (true ∷ [])) fails

-- the ends of the walk over the events from the mass m, in order: a scenario is dropped where its mass is below the threshold t;
-- each event is decided in turn, "works" before "fails"
unfoldable pub ends : ℕ → ℕ → List Event → List End
ends t m [] = elim (ltb m t) [ true ↦ dropped ∷ [] | false ↦ relevant [] m ∷ [] ]
ends t m (e ∷ events) =
    elim (ltb m t) [
      | true ↦ dropped ∷ []
      | false ↦
          both_sides (ends t (working m e.probability) events) (ends t (failing m e.probability) events)
    ]

-- the ends that follow a path: m is the mass that the path left, and the events are those not yet decided
abbrev pub ends_after : Scenario → ℕ → ℕ → List Event → List End
ends_after path t m events = map (after path) (ends t m events)

-- a sum over the relevant ends of a list: the value f of a scenario and its mass; a dropped end adds nothing
abbrev pub sum_ends : (Scenario → ℕ → ℕ) → List End → ℕ
sum_ends f [] = 0
sum_ends f (dropped ∷ list) = sum_ends f list
sum_ends f (relevant s m ∷ list) = f s m + sum_ends f list

-- the sum of mass × weight
abbrev pub weighed : (Scenario → ℕ) → List End → ℕ
weighed w = sum_ends (λ s m. m * w s)

-- the relevant scenarios of a list of ends
abbrev pub scenarios : List End → List Scenario
scenarios [] = []
scenarios (dropped ∷ list) = scenarios list
scenarios (relevant s m ∷ list) = s ∷ scenarios list
