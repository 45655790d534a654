-- The search for a witness: what its loop asks and promises, from any state.
-- Assumes nothing.
use Rattle.std.specs.Prelude.{Bool, true, false, List, ℕ, ◌<◌, take, Option, Some, None}
use Rattle.plan.specs.Plan.{Plan}
use Rattle.plan.specs.declared.Header.{Header}
use Rattle.walk.specs.Scenario.{Scenario}
use Rattle.walk.specs.Ends.{scenarios}
use Rattle.walk.specs.Stack.{to_come, Stack}
use Rattle.plan.specs.Held.{Held}
use Rattle.network.specs.Outage.{Outage}
use Rattle.bounds.specs.Bounds.{cuts}
use Rattle.walk.specs.declared.Failing.{Failing}
use Rattle.readings.specs.Witness.{some, first_where, failing_of}

-- what a search among the scenarios of a list finds: the failing events of the first that disconnects the pair, if one does
abbrev pub found : Bool → Scenario → Option Failing
found true s = Some (failing_of s)
found false s = None

abbrev pub searched : Outage → Plan → ℕ → ℕ → List Scenario → Option Failing
searched out p v w list = found (some (cuts out p v w) list) (first_where (cuts out p v w) list)

-- the relevant scenarios among the next k ends of a walk
abbrev pub reached_scenarios : Header → List ℕ → ℕ → List ℕ → ℕ → List Scenario
reached_scenarios h words at stack k = scenarios (take k (to_come h.events h.threshold words at stack))

-- what a search asks: lists of a valid plan, a stack that denotes the ends to come, and two nodes
pub record Seeking (h : Header) (links words : List ℕ) (at : ℕ) (stack : List ℕ) (v w : ℕ) : Type 0 where
  pub held : Held h links words
  pub stacked : Stack h.events at stack
  pub inside : (v < 64) × (w < 64)
