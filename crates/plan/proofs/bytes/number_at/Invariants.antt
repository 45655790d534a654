-- `plan::bytes::number_at` meets its contract. The loop's invariant: the sum is the number in the bytes taken so far, so it is below 256 for
-- each of them. Assumes nothing.
use mathlib.Core.Path.{◌≡◌}
use mathlib.Core.List.{List, ◌++◌}
use Prim.Native.Nat.{ℕ, ◌^◌, ◌<◌}
use lib.ListN.{length, take, drop}
use Rattle.plan.specs.Layout.{value}
use Rattle.plan.proofs.bytes.number_at.Given as goal

abbrev pub invariant-loop-byte : goal.invariant-loop-byte
invariant-loop-byte l =
    (taken : List ℕ)
    × (l.byte-iterator.iter.rest.now ++ taken ≡ take l.width (drop l.at l.s))
    × (l.sum ≡ value taken)
    × (l.sum < 256 ^ length taken)
