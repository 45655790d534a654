-- What a plan that is not refused holds: falling probabilities.
-- Assumes nothing.
use mathlib.Core.Path.{◌≡◌}
use mathlib.Core.List.{List, [], ◌∷◌}
use Prim.Native.Nat.{ℕ}
use borrow.Author.Tests.{ltb-false}
use lib.Dec.{ltb}
use Rattle.mass.proofs.RefusalLaws.{first-none, refuse-none}
use Rattle.mass.specs.Split.{certain}
use Rattle.plan.specs.Plan.{Plan, Event}
use Rattle.plan.specs.LentLists.{event_list_refusal, plan_refusal}
use Rattle.plan.specs.Held.{Falling}

-- law: probabilities that no test refuses never rise
pub events-falling : (nodes links before : ℕ) (events : List Event) → event_list_refusal nodes links before events ≡ 0 → Falling before events
unfolding event_list_refusal
events-falling nodes links before [] h = tt
events-falling nodes links before (e ∷ events) h = (
  ltb-false before e.probability (refuse-none (ltb before e.probability) 8 (first-none _ _ (first-none _ _ h).1).0),
  events-falling nodes links e.probability events (first-none _ _ (first-none _ _ (first-none _ _ (first-none _ _ h).1).1).1).0,
)

pub plan-falling : (p : Plan) → plan_refusal p ≡ 0 → Falling certain p.events
unfolding plan_refusal
plan-falling p h =
    events-falling _ _ _ p.events (first-none _ _ (first-none _ _ (first-none _ _ (first-none _ _ (first-none _ _ h).1).1).1).1).0
