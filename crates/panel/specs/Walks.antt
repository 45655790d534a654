-- A walk in steps: document 02, request U4. What it means that a walk has reached so many ends of a plan.
-- Assumes nothing.
use Rattle.std.specs.Prelude.{◌≡◌, List, [], ◌∷◌, ℕ, ◌+◌, ◌-◌, ◌≤◌, min, length, take, drop, replicate}
use Rattle.std.proofs.lemmas.List.Edits.{sets}
use Rattle.mass.specs.Split.{whole}
use Rattle.plan.specs.Plan.{Plan}
use Rattle.plan.specs.LentLists.{plan_refusal, plan_of_lists}
use Rattle.plan.specs.declared.Header.{Header}
use Rattle.network.specs.Outage.{Outage}
use Rattle.walk.specs.Ends.{End}
use Rattle.walk.specs.Walk.{plan_ends, count, mass_examined}
use Rattle.walk.specs.Stack.{Stack, to_come, pending_mass}
use Rattle.bounds.specs.Summed.{Summed}
use Rattle.walk_state.specs.declared.Walk.{Walk}

-- "a run whose cap is the number of ends reached so far": the plan with its cap replaced by r
abbrev pub capped : Plan → ℕ → Plan
capped p r = record { nodes = p.nodes; links = p.links; events = p.events; threshold = p.threshold; cap = r }

-- the plan that a walk holds
abbrev pub walk_plan : Walk → Plan
walk_plan w = plan_of_lists w.header w.links w.events

-- the ends still to come of a walk
abbrev pub ends_to_come : Walk → List End
ends_to_come w = to_come w.header.events w.header.threshold w.events w.at w.stack

-- "the ends the walk still has under the plan's cap"
abbrev pub ends_left : Walk → ℕ
ends_left w = min (w.header.cap - w.reached) (length (ends_to_come w))

-- w is a walk of the plan p that has reached its first r ends: the others are to come, and what it has so far is that of the plan with
-- cap r
pub record WalkAt (out : Outage) (p : Plan) (r : ℕ) (w : Walk) : Type 0 where
  pub plan : walk_plan w ≡ p
  pub valid : plan_refusal p ≡ 0
  pub reached : w.reached ≡ r
  pub under-cap : r ≤ p.cap
  pub within : r ≤ length (plan_ends p)
  pub stacked : Stack w.header.events w.at w.stack
  pub ends : ends_to_come w ≡ drop r (plan_ends p)
  pub counts : w.count ≡ count (capped p r)
  pub masses : w.mass ≡ mass_examined (capped p r)
  pub sums : Summed out (capped p r) p.nodes w.sums
  pub pending : w.mass + pending_mass (drop w.at w.stack) ≤ whole

-- the walk that begins: the lists of its plan are copied, the root (no event decided, one whole) is the only entry of the stack, and
-- nothing is reached
unfoldable pub root_walk : Header → List ℕ → List ℕ → Walk
root_walk h links events =
    record {
      header = h;
      links = sets (replicate 256 0) 0 (take (min (length links) 256) links);
      events = sets (replicate 512 0) 0 (take (min (length events) 512) events);
      stack = sets (replicate 512 0) 508 (0 ∷ whole ∷ 0 ∷ 0 ∷ []);
      sums = replicate 2016 0;
      at = 508;
      reached = 0;
      count = 0;
      mass = 0;
    }
