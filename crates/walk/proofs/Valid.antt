-- What is not refused has probabilities of at most 1, so the laws of the walk and of the exact sums hold of every accepted plan.
-- Assumes nothing.
use mathlib.Core.Path.{◌≡◌}
use mathlib.Core.List.{List}
use Prim.Native.Nat.{ℕ}
use native.Mathlib.Omega.{arith}
use Rattle.mass.specs.Split.{certain}
use Rattle.plan.specs.Plan.{Plan}
use Rattle.plan.specs.Lists.{events_of}
use Rattle.plan.specs.LentLists.{plan_refusal}
use Rattle.plan.specs.declared.Header.{Header}
use Rattle.walk.proofs.ScenarioLaws.{falling-probable}
use Rattle.plan.specs.Held.{Probabilities, Held}
use Rattle.plan.proofs.HeldLaws.{plan-falling}

-- law: of a valid plan
pub plan-probable : (p : Plan) → plan_refusal p ≡ 0 → Probabilities p.events
plan-probable p h = falling-probable certain p.events (omega arith) (plan-falling p h)

-- law: of lists that are held
pub held-probable : (h : Header) (links words : List ℕ) → Held h links words → Probabilities (events_of h.events words)
held-probable h links words held = falling-probable certain (events_of h.events words) (omega arith) held.falling
