-- `plan::bytes::number_at` meets its contract. The loop's invariant: the sum is the number in the bytes taken so far, so it is below 256 for
-- each of them. Assumes nothing.
use mathlib.Core.Path.{◌≡◌, refl, ap, ◌∙◌}
use mathlib.Core.List.{List, [], ◌∷◌, ◌++◌}
use Prim.Native.Nat.{ℕ, ◌+◌, ◌*◌, ◌^◌, ◌<◌}
use lib.ListN.{length}
use native.Mathlib.Omega.{arith}
use Rattle.std.proofs.Common.{rules, append-nil, length-take}
use Rattle.plan.specs.Layout.{value}
use Rattle.plan.proofs.FileLaws.{number_fits, number_step}
use Rattle.plan.proofs.bytes.number_at.Goals.{After-from}
use Rattle.plan.proofs.bytes.number_at.Goals as goal

pub loop-byte-init : goal.loop-byte-init
unfolding value
loop-byte-init c = ([], search (rules, append-nil), refl, omega arith)

sum_fits : (c : After-from) → c.loop-byte.sum < 2 ^ 56
sum_fits c = number_fits _ _ _ _ _ _ c.in-Some.ensures.steps c.loop-byte.invariant.1 c.loop-byte.invariant.2 c.loop-byte.invariant.3 (rw length-take (omega arith))

pub overflow_mul-sum : goal.overflow_mul-sum
overflow_mul-sum c = omega (arith, sum_fits c)

pub overflow_add-sum : goal.overflow_add-sum
overflow_add-sum c = omega (arith, sum_fits c)

pub loop-byte-preserved : goal.loop-byte-preserved
loop-byte-preserved c = number_step _ _ _ _ _ _ c.in-Some.ensures.steps c.loop-byte.invariant.1 c.loop-byte.invariant.2 c.loop-byte.invariant.3 (omega arith) _ (ap (λ (b : ℕ). b + 256 * c.loop-byte.sum) c.from.ensures)

-- all bytes are taken
ends : (rest taken part : List ℕ) (sum : ℕ) → rest ++ taken ≡ part → length rest ≡ 0 → sum ≡ value taken → sum ≡ value part
ends [] taken part sum e z n = n ∙ ap value e
ends (x ∷ rest) taken part sum e z n = absurd (omega arith)

pub returns : goal.returns
returns c = ends _ _ _ _ c.loop-byte.invariant.1 c.in-None.ensures.steps.0 c.loop-byte.invariant.2
