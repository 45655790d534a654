-- What the theorems of the witness say: it is examined and disconnects the pair (document 01, section "Further readings of a plan"), and it
-- is the first in the order of the walk (document 02, request U5).
-- Assumes nothing.
use Rattle.std.specs.Prelude.{◌≡◌, Bool, true, false, List, ◌∷◌, ◌++◌, ℕ}
use Rattle.sets.specs.Sets.{joined}
use Rattle.plan.specs.Plan.{Plan}
use Rattle.network.specs.Outage.{Outage}
use Rattle.walk.specs.Scenario.{Scenario, failing_set}
use Rattle.walk.specs.Member.{among}
use Rattle.walk.specs.declared.Failing.{Failing}
use Rattle.bounds.specs.Bounds.{cuts}
use Rattle.readings.specs.Witness.{some}

-- a scenario is the first of a list of which a test holds: it holds of none before it
pub record First (test : Scenario → Bool) (list : List Scenario) (s : Scenario) : Type 0 where
  pub before : List Scenario
  pub later : List Scenario
  pub parts : list ≡ before ++ s ∷ later
  pub holds : test s ≡ true
  pub none : some test before ≡ false

-- "one examined scenario that disconnects the pair, given as the 128-bit set of its failing events"
pub record Shows (out : Outage) (p : Plan) (v w : ℕ) (list : List Scenario) (set : Failing) : Type 0 where
  pub scenario : Scenario
  pub failing : joined set.low set.high ≡ failing_set scenario
  pub member : among scenario list ≡ true
  pub disconnects : cuts out p v w scenario ≡ true
