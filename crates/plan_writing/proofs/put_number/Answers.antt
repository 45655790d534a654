-- `plan_writing::put_number` meets its contract: what is left, laid down from the next byte on, makes the whole. Assumes nothing.
use mathlib.Core.Path.{◌≡◌, refl, ◌∙◌}
use mathlib.Core.List.{List}
use Prim.Native.Nat.{ℕ, ◌+◌, ◌-◌, ◌≤◌}
use native.Mathlib.Omega.{arith}
use lib.ListN.{length, take, drop, length-drop}
use lib.Seq.{length-take-le}
use Rattle.plan_lists.proofs.ListLaws.{part-whole, all_left, one_fewer}
use Rattle.plan_writing.proofs.SizeLaws.{length-little}
use Rattle.plan_writing.proofs.WriterLaws.{number-next, number-end}
use Rattle.plan_writing.proofs.put_number.Goals as goal

-- the part of the output that the number takes is as long as the number
part-long : (out : List ℕ) (at width : ℕ) → at + width ≤ length out → length (take (at + width - at) (drop at out)) ≡ width
part-long out at width h =
    let d : at + width - at ≡ width = omega arith in
    rw d (length-take-le width (drop at out) (omega (arith, length-drop at out)))

pub loop-byte-init : goal.loop-byte-init
loop-byte-init c = rw all_left refl

pub loop-byte-preserved : goal.loop-byte-preserved
loop-byte-preserved c =
    let n = part-long _ _ _ c.requires in
    rw (one_fewer c.loop-byte.byte-index c.args.width) (number-next _ _ _ _ (omega arith) ∙ c.loop-byte.invariant)

pub returns : goal.returns
returns c =
    let n = part-long _ _ _ c.requires in
    part-whole _ _ _ c.args.at c.args.width (length-little c.args.width c.args.x) c.requires
    (number-end _ _ (c.args.width - c.loop-byte.byte-index) _ (omega arith) ∙ c.loop-byte.invariant)
