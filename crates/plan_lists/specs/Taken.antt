-- What stands in the arrays that accepted lists were taken into.
-- Assumes nothing.
use Rattle.std.specs.Prelude.{◌≡◌, List, ℕ, ◌<◌, ◌≤◌}
use Rattle.plan.specs.LentLists.{plan_refusal, plan_of_lists}
use Rattle.plan.specs.Held.{Held}
use Rattle.plan.specs.declared.Header.{Header}

-- accepted lists were taken into arrays: the arrays denote the plan of the lists, which is valid, and hold what every later function asks
pub record Taken (h : Header) (links events bytes words : List ℕ) : Type 0 where
  pub denoted : plan_of_lists h bytes words ≡ plan_of_lists h links events
  pub valid : plan_refusal (plan_of_lists h links events) ≡ 0
  pub held : Held h bytes words
  pub some-node : 1 ≤ h.nodes
  pub cap-small : h.cap < 4294967296
