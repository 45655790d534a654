-- Laws of started minutes and of the credit for them.
-- Assumes nothing.
use mathlib.Core.Path.{◌≡◌}
use Prim.Native.Nat.{ℕ, suc, ◌+◌, ◌-◌, ◌*◌, ◌/◌, ◌≤◌, ◌<◌, min}
use native.Mathlib.Nat.{mul-le-mul_left, mul-le-mul_right, le_of_mul-le-mul_right, div-lt_iff_lt-mul}
use native.Mathlib.Omega.{arith}
use Rattle.credits.specs.Credit.{started_minutes}

-- law: at most k minutes are started exactly where the time is at most k minutes above the limit
pub minutes-most : (parts limit time k : ℕ) → 1 ≤ parts → time ≤ (limit + 60 * k) * parts → started_minutes parts limit time ≤ k
minutes-most parts limit time k some h =
    let below : time - limit * parts + (60 * parts - 1) < suc k * (60 * parts) = omega arith in
    let few : started_minutes parts limit time < suc k = (div-lt_iff_lt-mul {k = 60 * parts} (omega arith)).1 below in
    omega (arith, few)

pub minutes-reach : (parts limit time k : ℕ) → 1 ≤ parts → started_minutes parts limit time ≤ k → time ≤ (limit + 60 * k) * parts
minutes-reach parts limit time k some h =
    let few : started_minutes parts limit time < suc k = omega (arith, h) in
    let below : time - limit * parts + (60 * parts - 1) < suc k * (60 * parts) = (div-lt_iff_lt-mul {k = 60 * parts} (omega arith)).0 few in
    omega (arith, below)

-- law: a longer time starts no fewer minutes, whatever the parts of a second that the two are told in
pub minutes-grow : (parts fine limit time longer : ℕ) → 1 ≤ parts → 1 ≤ fine → time * fine ≤ longer * parts
    → started_minutes parts limit time ≤ started_minutes fine limit longer
minutes-grow parts fine limit time longer p f h =
    let k : ℕ = started_minutes fine limit longer in
    let most : longer ≤ (limit + 60 * k) * fine = minutes-reach fine limit longer k f (omega arith) in
    let times : time * fine ≤ (limit + 60 * k) * parts * fine = omega (arith, h, mul-le-mul_right parts most) in
    minutes-most parts limit time k p (le_of_mul-le-mul_right times f)

-- law: in whole seconds
pub minutes-whole : (limit seconds : ℕ) → started_minutes 1 limit seconds ≡ (seconds - limit + 59) / 60
minutes-whole limit seconds = omega arith

-- law: more minutes bring no smaller credit
pub credit-grows : (fee rate minutes more : ℕ) → minutes ≤ more → min fee (rate * minutes) ≤ min fee (rate * more)
credit-grows fee rate minutes more h = omega (arith, mul-le-mul_left rate h)
