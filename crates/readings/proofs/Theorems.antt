-- The downtime's rounding and what it encloses (document 02, request U1); what 14 means (document 01, section "Further readings of a plan"),
-- and that the witness is the first scenario that disconnects the pair (document 02, request U5).
-- Assumes nothing.
use Rattle.std.specs.Prelude.{Result, Ok, Err, IfOk}
use mathlib.Core.Path.{◌≡◌, refl, sym, ap, subst, ◌∙◌}
use mathlib.Core.Bool.{true, false}
use mathlib.Core.List.Memᴰ
use mathlib.Core.List.{List, Memᴰ}
use Prim.Native.Nat.{ℕ, ◌+◌, ◌*◌, ◌^◌, ◌≤◌, ◌<◌}
use native.Mathlib.Nat.{div-add-mod'}
use native.Mathlib.Omega.{arith}
use borrow.Author.Tests.{not-false}
use lib.ListN.{length}
use Rattle.mass.specs.Split.{whole}
use Rattle.mass.proofs.RefusalLaws.{first-none, refuse-none, number-some}
use Rattle.mass.specs.Refusal.{number_in}
use Rattle.mass.specs.declared.refusal.Refusal.{Refusal}
use Rattle.plan.specs.Plan.{Plan}
use Rattle.plan.specs.LentLists.{Lent, plan_lent}
use Rattle.network.specs.Outage.{intact}
use Rattle.walk.specs.Scenario.{Scenario, failing_set}
use Rattle.walk.specs.Walk.{examined, is_examined}
use Rattle.walk.specs.WalkOrder.{earlier}
use Rattle.walk.proofs.MemberLaws.{among-member, member-among}
use Rattle.walk.proofs.Theorems.{examined-ordered}
use Rattle.sums.specs.Exact.{scale, exact_cut}
use Rattle.sums.proofs.Theorems.{demand3-valid}
use Rattle.readings.specs.Downtime.{year, lower_seconds, upper_seconds, seconds_of, DowntimeWithin, EnclosesDowntime}
use Rattle.readings.proofs.DowntimeLaws.{below_step, above_step}
use Rattle.readings.proofs.FirstLaws.{some-member, first_found, none-earlier}
use Rattle.bounds.specs.Bounds.{cuts}
use Rattle.readings.specs.Witness.{some, none_test, witness_number, first_cut, failing_of}
use Rattle.readings.specs.Witness.{witness_of}
use Rattle.readings.specs.First.{First, Shows}
use Rattle.walk.specs.declared.Failing.{Failing}

-- the lower seconds are rounded down: less than a second is lost
pub lower-rounds : (m : ℕ) → (lower_seconds m * whole ≤ m * year) × (m * year < (lower_seconds m + 1) * whole)
lower-rounds m = (omega arith, omega arith)

-- the upper ones are rounded up: less than a second is gained
pub upper-rounds : (m : ℕ) → (m * year ≤ upper_seconds m * whole) × (upper_seconds m * whole < m * year + whole)
upper-rounds m = (omega arith, omega arith)

-- they are the least number of seconds that is not below the mass's, so whole seconds are not raised
pub upper-least : (m s : ℕ) → m * year ≤ s * whole → upper_seconds m ≤ s
upper-least m s h = omega arith

pub upper-kept : (m s : ℕ) → m * year ≡ s * whole → upper_seconds m ≡ s
upper-kept m s e = omega arith

-- only a mass of 0 has an upper downtime of 0 seconds
pub upper-none : (m : ℕ) → upper_seconds m ≡ 0 → m ≡ 0
upper-none m e = omega arith

-- lower is at most upper in seconds where the masses are so
pub seconds-ordered : (lower upper : ℕ) → lower ≤ upper → lower_seconds lower ≤ upper_seconds upper
seconds-ordered lower upper h = omega arith

-- two masses that enclose D, in seconds
within : (n d lower upper : ℕ) → lower * scale n ≤ d * whole → d * whole ≤ upper * scale n → DowntimeWithin n d (seconds_of lower upper)
within n d lower upper h k =
    record {
      below = below_step lower (lower_seconds lower) (scale n) d (lower-rounds lower).0 h;
      above = above_step upper (upper_seconds upper) (scale n) d (upper-rounds upper).0 k;
    }

-- the exact downtime of a pair lies between the seconds of its two bounds, whatever is out before the first event
pub bounds-enclose : (lower upper : ℕ) → EnclosesDowntime lower upper (seconds_of lower upper)
bounds-enclose lower upper out p valid v w l k is-lower is-upper =
    let held = demand3-valid p valid (cuts out p v w) in
    let n : ℕ = length p.events in
    let d : ℕ = exact_cut p (cuts out p v w) in
    within n d lower upper
    (subst (λ (m : ℕ). m * scale n ≤ d * whole) is-lower held.below)
    (subst (λ (m : ℕ). d * whole ≤ m * scale n) is-upper held.above)

-- ---- the witness

-- a pair that 14 is given for is disconnected by no scenario of the list
pub none-cuts : (p : Plan) (v w : ℕ) (list : List Scenario) → none_test intact p v w list ≡ 14 → (s : Scenario) → Memᴰ s list → cuts intact p v w s ≡ true → ⊥
none-cuts p v w list e s m h = let z : ◌≡◌ {A = ℕ} 0 14 = rw (some-member (cuts intact p v w) s list m h) at e in omega arith

-- the witness of every call that is not refused: document 02, request U5
module _ (l : Lent) (v w : ℕ) (accepted : witness_number intact l v w ≡ 0) where
  abbrev p : Plan
  p = plan_lent l

  found_some : some (cuts intact p v w) (examined p) ≡ true
  unfolding witness_number
  found_some = not-false _ (refuse-none _ 13 (first-none _ _ (first-none _ _ accepted).1).0)

  -- every answer with the number of the call, and with the witness where it is given, is the set of failing events of the first examined
  -- scenario that disconnects the pair
  pub witness-found : (r : Result Failing Refusal) → number_in r ≡ witness_number intact l v w → IfOk r (λ set. set ≡ witness_of intact p v w)
      → r ≡ Ok (failing_of (first_cut intact p v w))
  witness-found (Ok set) e is = ap Ok is
  witness-found (Err refused) e is = absurd (number-some refused (e ∙ accepted))

  pub witness-first : First (cuts intact p v w) (examined p) (first_cut intact p v w)
  witness-first = first_found (cuts intact p v w) (examined p) found_some

  -- no examined scenario that comes before it in the walk disconnects the pair
  pub none_before : (s : Scenario) → is_examined p s ≡ true → earlier s (first_cut intact p v w) ≡ true → cuts intact p v w s ≡ false
  none_before s x =
      none-earlier (cuts intact p v w) (examined p) (first_cut intact p v w) (examined-ordered p) witness-first s (among-member s (examined p) x)

  -- it is examined and disconnects the pair, as document 01 asks
  pub witness-shows : Shows intact p v w (examined p) (witness_of intact p v w)
  witness-shows =
      record {
        scenario = first_cut intact p v w;
        failing = div-add-mod' (failing_set (first_cut intact p v w)) (2 ^ 64);
        member =
            member-among _ _
            (subst (Memᴰ (first_cut intact p v w)) (sym witness-first.parts) (Memᴰ.append_right witness-first.before (Memᴰ.head refl)));
        disconnects = witness-first.holds;
      }
