-- `plan_writing::sizes::count_elements` meets its contract: each one among the bits of the set is an element. Assumes nothing.
use mathlib.Core.Path.{◌≡◌, sym, ap, ◌∙◌}
use Prim.Native.Nat.{ℕ, zero, suc, ◌+◌, ◌^◌, ◌/◌, ◌%◌, ◌<◌}
use native.Mathlib.Omega.{arith}
use lib.Count.{ones, ones_step}
use lib.ListN.{length}
use Rattle.plan.specs.Layout.{elements}
use Rattle.plan_writing.proofs.ElementLaws.{length-next, length_most}
use Rattle.plan_writing.proofs.sizes.count_elements.Goals as goal

ones-elements : (count from s : ℕ) → s < 2 ^ count → ones s ≡ length (elements count from s)
unfolding ones elements
ones-elements zero from s h = let e : s ≡ 0 = omega arith in rw e
ones-elements (suc count) from s h =
    ones_step s ∙ ap (λ (n : ℕ). s % 2 + n) (ones-elements count (suc from) (s / 2) (omega arith)) ∙ sym (length-next count from s)

pub returns : goal.returns
returns c = let e = c.from.ensures ∙ ones-elements 64 0 c.args.set (omega arith) in (e, omega (arith, e, length_most 64 0 c.args.set))
