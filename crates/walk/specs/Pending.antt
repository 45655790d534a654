-- A pending branch of the walk: its ends.
-- Assumes nothing.
use Rattle.std.specs.Prelude.{Bool, List, [], ◌∷◌, ◌++◌, ℕ, length, drop}
use Rattle.plan.specs.Plan.{Event}
use Rattle.walk.specs.Scenario.{Scenario, part}
use Rattle.walk.specs.Ends.{End, ends_after}

-- a branch not yet walked: what was decided of the first events, and the mass that is left
pub record Branch : Type 0 where
  pub path : Scenario
  pub mass : ℕ

-- the branch in which the next event, of probability q, works (false) or fails (true)
abbrev pub branch : Branch → ℕ → Bool → Branch
branch b q fails = record { path = b.path ++ (fails ∷ []); mass = part fails b.mass q }

-- the ends of a branch
abbrev pub branch_ends : ℕ → List Event → Branch → List End
branch_ends t events b = ends_after b.path t b.mass (drop (length b.path) events)

-- the whole walk is one branch
abbrev pub root : ℕ → Branch
root m = record { path = []; mass = m }
