-- The laws of service credits: document 02, request U6. What started minutes are: laws `minutes-most` and `minutes-reach` of Minutes.
-- Assumes nothing.
use mathlib.Core.Path.{◌≡◌, refl, sym, subst}
use Prim.Native.Nat.{ℕ, ◌-◌, ◌*◌, ◌≤◌, ◌<◌}
use native.Mathlib.Decide.{dec_le}
use native.Mathlib.Nat.{min-le_left, lt_of_not-le}
use native.Mathlib.Omega.{arith}
use lib.Dec.{T, le→leb}
use lib.IntN.{ℤ, pos, ◌+ℤ◌, -ℤ-+ℤ_cancel}
use lib.ListN.{length}
use lib.Signed.{◌≤ℤ◌, le_z, le_z_yes}
use Rattle.plan.specs.Plan.{Plan}
use Rattle.plan.specs.LentLists.{plan_refusal}
use Rattle.network.specs.Outage.{intact}
use Rattle.walk.proofs.Valid.{plan-probable}
use Rattle.sums.specs.Exact.{scale, exact_cut}
use Rattle.sums.proofs.BoundsLaws.{lower-upper}
use Rattle.sums.proofs.ExactLaws.{scale-pos}
use Rattle.bounds.specs.Bounds.{cuts, lower_of, upper_of}
use Rattle.readings.specs.Downtime.{year, seconds_of, DowntimeWithin}
use Rattle.readings.specs.declared.Seconds.{Seconds}
use Rattle.readings.proofs.Theorems.{bounds-enclose, seconds-ordered}
use Rattle.credits.specs.Credit.{started_minutes, credit_for, headroom_of, credits_of, exact_credit, CreditWithin}
use Rattle.credits.proofs.Minutes.{minutes-reach, minutes-grow, credit-grows}
use Rattle.credits.proofs.Headroom.{headroom-left, headroom-past}

-- no credit exceeds the fee
pub fee-most : (fee limit rate parts time : ℕ) → credit_for fee limit rate parts time ≤ fee
fee-most fee limit rate parts time = min-le_left fee (rate * started_minutes parts limit time)

-- a longer time brings no smaller credit, whatever the parts of a second that the two are told in
pub credit-longer : (fee limit rate parts fine time longer : ℕ) → 1 ≤ parts → 1 ≤ fine → time * fine ≤ longer * parts
    → credit_for fee limit rate parts time ≤ credit_for fee limit rate fine longer
credit-longer fee limit rate parts fine time longer p f h = credit-grows fee rate _ _ (minutes-grow parts fine limit time longer p f h)

-- the headroom and the upper downtime make the limit, over the integers
pub headroom-sum : (limit seconds : ℕ) → headroom_of limit seconds +ℤ pos seconds ≡ pos limit
headroom-sum limit seconds = -ℤ-+ℤ_cancel (pos limit) (pos seconds)

-- it is not negative exactly where no minute is started
pub headroom-none : (limit seconds : ℕ) → started_minutes 1 limit seconds ≡ 0 → pos 0 ≤ℤ headroom_of limit seconds
headroom-none limit seconds e =
    subst (λ (z : ℤ). pos 0 ≤ℤ z) (sym (headroom-left limit seconds (omega (arith, minutes-reach 1 limit seconds 0 (omega arith) (omega (arith, e))))))
    (le_z_yes (le→leb 0 (limit - seconds) (omega arith)))

pub none-headroom : (limit seconds : ℕ) → pos 0 ≤ℤ headroom_of limit seconds → started_minutes 1 limit seconds ≡ 0
none-headroom limit seconds h = by (dec_le seconds limit)
  where
    by : Dec (seconds ≤ limit) → started_minutes 1 limit seconds ≡ 0
    by (yes le) = omega arith
    by (no over) =
        absurd (subst (λ (z : ℤ). T (le_z (pos 0) z)) (headroom-past limit seconds (lt_of_not-le over)) h.le)

-- ---- the pairs of every accepted plan

module _ (p : Plan) (valid : plan_refusal p ≡ 0) (v w fee limit rate : ℕ) where
  abbrev seconds : Seconds
  seconds = seconds_of (lower_of intact p v w) (upper_of intact p v w)

  -- the lower credit never exceeds the upper
  pub credits-ordered : credit_for fee limit rate 1 seconds.lower ≤ credit_for fee limit rate 1 seconds.upper
  credits-ordered =
      let least : lower_of intact p v w ≤ upper_of intact p v w = lower-upper p (plan-probable p valid) (cuts intact p v w) in
      credit-longer fee limit rate 1 1 seconds.lower seconds.upper (omega arith) (omega arith)
      (omega (arith, seconds-ordered (lower_of intact p v w) (upper_of intact p v w) least))

  -- the credit of the exact downtime lies between the two (from request U1)
  pub credits-enclose : v < w → w < p.nodes → CreditWithin (exact_credit intact p v w fee limit rate) (credits_of fee limit rate seconds)
  credits-enclose l k =
      let within : DowntimeWithin (length p.events) (exact_cut p (cuts intact p v w)) seconds =
      bounds-enclose (lower_of intact p v w) (upper_of intact p v w) intact p valid v w l k refl refl in
      let n : ℕ = length p.events in
      let time : ℕ = exact_cut p (cuts intact p v w) * year in
      record {
        below = credit-longer fee limit rate 1 (scale n) seconds.lower time (omega arith) (scale-pos n) (omega (arith, within.below));
        above = credit-longer fee limit rate (scale n) 1 time seconds.upper (scale-pos n) (omega arith) (omega (arith, within.above));
      }
