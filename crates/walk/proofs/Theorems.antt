-- What is examined: document 01, section "Scenarios".
-- Assumes nothing.
use mathlib.Core.Path.{◌≡◌, refl, ap}
use mathlib.Core.Bool.{Bool, true, false}
use mathlib.Core.Logic.{◌↔◌}
use mathlib.Core.List.{Nodup, Memᴰ}
use Prim.Native.Nat.{ℕ, ◌*◌, ◌≤◌}
use native.Mathlib.Omega.{arith}
use lib.Dec.{leb}
use lib.ListN.{length}
use lib.Seq.{take_all, take-length}
use borrow.Author.Tests.{leb-true}
use Rattle.mass.specs.Split.{whole}
use Rattle.plan.specs.Plan.{Plan}
use Rattle.walk.specs.Scenario.{Scenario, final_mass}
use Rattle.plan.specs.Held.{Probabilities}
use Rattle.sets.specs.Sets.{digit}
use Rattle.walk.specs.Ends.{relevant, scenarios}
use Rattle.walk.proofs.EndsLaws.{count-sum}
use Rattle.walk.proofs.MemberLaws.{among-member, member-among}
use Rattle.walk.specs.WalkOrder.{Ordered}
use Rattle.walk.specs.Walk.{plan_ends, examined, is_examined, complete, mass_examined, count}
use Rattle.walk.proofs.Laws.{Relevant, relevant-sound, relevant-all, end-scenario, examined-sound, masses-le, masses-enough}
use Rattle.walk.proofs.Laws.{ends-ordered}
use Rattle.walk.proofs.OrderLaws.{ordered-distinct}

-- a scenario is a relevant end of the whole walk exactly where its final mass is at least t, and the mass handed out is that mass
pub relevant-iff : (p : Plan) → Probabilities p.events → (s : Scenario) (x : ℕ)
    → Memᴰ (relevant s x) (plan_ends p) ↔ Relevant p.threshold whole p.events s x
relevant-iff p q s x = (
  λ (h : Memᴰ (relevant s x) (plan_ends p)).
      relevant-sound p.threshold (length (plan_ends p)) whole p.events s x (rw (take-length (plan_ends p)) h),
  relevant-all p.threshold whole p.events s x q,
)

-- where complete is 1, examined means a final mass of at least t
pub examined-iff : (p : Plan) → Probabilities p.events → complete p ≡ 1 → (s : Scenario)
    → (is_examined p s ≡ true) ↔ ((length s ≡ length p.events) × (p.threshold ≤ final_mass whole p.events s))
examined-iff p q c s = (examined-sound p s, back)
  where
    enough : (b : Bool) → leb (length (plan_ends p)) p.cap ≡ b → digit b ≡ 1 → length (plan_ends p) ≤ p.cap
    enough true e d = leb-true (length (plan_ends p)) p.cap e
    enough false e d = absurd (omega arith)

    back : (length s ≡ length p.events) × (p.threshold ≤ final_mass whole p.events s) → is_examined p s ≡ true
    back h =
        rw (take_all p.cap (plan_ends p) (enough (leb (length (plan_ends p)) p.cap) refl c))
        (member-among
        s
        (scenarios (plan_ends p))
        (end-scenario
        s
        (final_mass whole p.events s)
        (plan_ends p)
        (relevant-all p.threshold whole p.events s (final_mass whole p.events s) q (record { entries = h.0; mass = refl; enough = h.1 }))))

-- E is at most 10^18
pub mass_examined-le : (p : Plan) → Probabilities p.events → mass_examined p ≤ whole
mass_examined-le p q = masses-le p.threshold p.cap whole p.events q

-- "Examined count × t is at most 10^18."
pub count-le : (p : Plan) → Probabilities p.events → count p * p.threshold ≤ whole
count-le p q =
    omega (
      arith,
      ap (λ (x : ℕ). x * p.threshold) (count-sum p),
      masses-enough p.threshold p.cap whole p.events,
      mass_examined-le p q,
    )

-- what is examined stands in the order of the walk: at the first event on which two scenarios differ, it works in the one that comes first
pub examined-ordered : (p : Plan) → Ordered (examined p)
examined-ordered p = ends-ordered p.threshold p.cap whole p.events

-- so no scenario is examined twice
pub examined-distinct : (p : Plan) → Nodup (examined p)
examined-distinct p = ordered-distinct (examined p) (examined-ordered p)

-- the test for an examined scenario is membership
pub examined-member : (p : Plan) (s : Scenario) → (is_examined p s ≡ true) ↔ Memᴰ s (examined p)
examined-member p s = (among-member s (examined p), member-among s (examined p))
