-- Demand 3, for every plan that is not refused: document 01, section "Bounds of a pair".
-- Assumes nothing.
use mathlib.Core.Path.{◌≡◌}
use mathlib.Core.Bool.{Bool}
use lib.ListN.{length}
use Rattle.plan.specs.Plan.{Plan}
use Rattle.plan.specs.LentLists.{plan_refusal}
use Rattle.walk.specs.Scenario.{Scenario}
use Rattle.walk.specs.Walk.{count}
use Rattle.walk.proofs.Valid.{plan-probable}
use Rattle.sums.specs.Exact.{exact_cut, exact_missed}
use Rattle.sums.specs.Bounds.{lower, upper, Demand3}
use Rattle.sums.proofs.BoundsLaws.{demand3}

-- the exact sum over all 2^n sets lies between the bounds, and the gap is at most what was not examined and n units for each scenario examined
pub demand3-valid : (p : Plan) → plan_refusal p ≡ 0 → (cut : Scenario → Bool)
    → Demand3 (length p.events) (lower p cut) (upper p cut) (exact_cut p cut) (exact_missed p) (count p)
demand3-valid p valid cut = demand3 p (plan-probable p valid) cut
