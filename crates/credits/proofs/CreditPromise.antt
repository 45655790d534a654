-- The credits of a pair from its bounds.
-- Assumes nothing.
use mathlib.Core.Path.{◌≡◌}
use Prim.Native.Nat.{ℕ, ◌<◌}
use Rattle.plan.specs.Plan.{Plan}
use Rattle.plan.specs.LentLists.{plan_refusal}
use Rattle.network.specs.Outage.{intact}
use Rattle.bounds.specs.Calls.{bounds_of}
use Rattle.bounds.specs.declared.PairBounds.{PairBounds}
use Rattle.readings.specs.Downtime.{seconds_of}
use Rattle.credits.specs.Credit.{credits_of, exact_credit, CreditWithin}
use Rattle.credits.specs.declared.Credits.{Credits}
use Rattle.credits.proofs.Theorems.{credits-enclose}

pub credits_enclose : (p : Plan) (v w fee limit rate : ℕ) → plan_refusal p ≡ 0 → (v < w) × (w < p.nodes)
    → (b : PairBounds) → b ≡ bounds_of intact p v w → (c : Credits) → c ≡ credits_of fee limit rate (seconds_of b.lower b.upper)
    → CreditWithin (exact_credit intact p v w fee limit rate) c
credits_enclose p v w fee limit rate valid inside b is c e = rw (e, is) (credits-enclose p valid v w fee limit rate inside.0 inside.1)
