-- `plan_writing::put_members` meets its contract: what is left, laid down from the position on, makes the whole. Assumes nothing.
use mathlib.Core.Path.{◌≡◌, refl, ap, ◌∙◌}
use Prim.Native.Nat.{◌+◌, ◌-◌, ◌/◌}
use native.Mathlib.Omega.{arith}
use lib.ListN.{length}
use Rattle.plan.specs.Layout.{elements}
use Rattle.plan_lists.proofs.ListLaws.{some_left, one_fewer, none_left}
use Rattle.plan_writing.proofs.ElementLaws.{length-members-left, elements-end}
use Rattle.plan_writing.proofs.WriterLaws.{members-next, members-end}
use Rattle.plan_writing.proofs.put_members.Goals.{In-loop-number}
use Rattle.plan_writing.proofs.put_members.Goals as goal

pub loop-number-init : goal.loop-number-init
loop-number-init c =
    let all : c.args.first + 64 - c.args.first ≡ 64 = omega arith in
    rw all (refl, refl, refl)

next : (c : In-loop-number)
    → length (elements (c.args.first + 64 - c.loop-number.number) c.loop-number.number c.loop-number.rest)
    ≡ length (elements 1 c.loop-number.number c.loop-number.rest)
    + length (elements (c.args.first + 64 - c.loop-number.number - 1) (c.loop-number.number + 1) (c.loop-number.rest / 2))
next c = length-members-left _ _ _ (some_left _ _ c.loop-number-test.true)

pub put_member-next-requires : goal.put_member-next-requires
put_member-next-requires c = omega (arith, next (goal.at.put_member-next-requires c).In-loop-number)

pub loop-number-preserved : goal.loop-number-preserved
loop-number-preserved c =
    let m = c.put_member-next in
    let l = c.loop-number in
    rw (one_fewer l.number (c.args.first + 64)) (
      m.auto.out ∙ l.invariant.0,
      omega (arith, next (goal.at.loop-number-preserved c).In-loop-number),
      members-next _ _ _ _ _ _ _ _ (some_left _ _ c.loop-number-test.true) m.ensures.0 m.ensures.1 ∙ l.invariant.2,
    )

pub shape_of-out : goal.shape_of-out
shape_of-out c = c.loop-number.invariant.0

pub returns : goal.returns
returns c =
    let l = c.loop-number in
    let none = none_left _ _ c.loop-number-test.false in
    let e = ap length (elements-end (c.args.first + 64 - l.number) l.number l.rest none) in
    (members-end _ _ _ _ _ _ none ∙ l.invariant.2, omega (arith, e))
