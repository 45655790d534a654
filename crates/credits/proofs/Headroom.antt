-- The headroom by its two cases: what is left of the limit, and what is past it.
-- Assumes nothing.
use mathlib.Core.Path.{◌≡◌, ap}
use mathlib.Core.Bool.{Bool, cond}
use Prim.Native.Nat.{ℕ, zero, suc, ◌-◌, ◌≤◌, ◌<◌}
use native.Mathlib.Omega.{arith}
use borrow.Author.Tests.{le-ltb, lt-ltb}
use lib.IntN.{pos, negsuc}
use Rattle.credits.specs.Credit.{headroom_of}

pub headroom-left : (limit seconds : ℕ) → seconds ≤ limit → headroom_of limit seconds ≡ pos (limit - seconds)
headroom-left limit zero h = ap pos (omega arith)
headroom-left limit (suc seconds) h =
    ap (λ (b : Bool). cond b (negsuc (suc seconds - suc limit)) (pos (limit - suc seconds))) (le-ltb limit (suc seconds) h)

pub headroom-past : (limit seconds : ℕ) → limit < seconds → headroom_of limit seconds ≡ negsuc (seconds - suc limit)
headroom-past limit zero h = absurd (omega arith)
headroom-past limit (suc seconds) h =
    ap (λ (b : Bool). cond b (negsuc (suc seconds - suc limit)) (pos (limit - suc seconds))) (lt-ltb limit (suc seconds) h)
