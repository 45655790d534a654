-- Laws of a lent list that a call fills, or leaves as it was.
-- Assumes nothing.
use mathlib.Core.Path.{◌≡◌, refl}
use mathlib.Core.List.{List}
use Prim.Native.Nat.{ℕ, zero, suc}
use lib.ListN.{length}
use lib.Seq.{sets, length-sets}
use Rattle.plan.specs.Calls.{filled}

-- a refusal leaves the list as it was
pub filled_none : (number : ℕ) (news list : List ℕ) → (number ≡ 0 → ⊥) → list ≡ filled number news list
filled_none zero news list n = absurd (n refl)
filled_none (suc number) news list n = refl

-- with number 0 it is filled
pub filled-all : (number : ℕ) (news list : List ℕ) → number ≡ 0 → sets list 0 news ≡ filled number news list
filled-all number news list e = rw e

pub length-filled : (number : ℕ) (news list : List ℕ) → length (filled number news list) ≡ length list
length-filled zero news list = length-sets list 0 news
length-filled (suc number) news list = refl
