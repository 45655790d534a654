-- `plan_writing::put_member` meets its contract: the lowest bit says whether the member is there. Assumes nothing.
use Prim.Native.Nat.{◌+◌, ◌≤◌}
use native.Mathlib.Omega.{arith}
use lib.ListN.{length, length-set}
use Rattle.plan_writing.proofs.WriterLaws.{member-none, member-some}
use Rattle.plan_writing.proofs.put_member.Goals.{Else-set-eq0}
use Rattle.plan_writing.proofs.put_member.Goals as goal

pub returns-then-set-eq0 : goal.returns-then-set-eq0
returns-then-set-eq0 c = member-none _ _ _ _ _ c.if-set-eq0.true

room : (c : Else-set-eq0) → c.args.at + 2 ≤ length c.args.out.now
room c =
    let a = c.args in
    omega (arith, (member-some a.kind a.out.now a.at a.number a.set c.if-set-eq0.false).1)

pub bounds-out-at : goal.bounds-out-at
bounds-out-at c = omega (arith, room c)

pub overflow_add-out : goal.overflow_add-out
overflow_add-out c = omega (arith, room c)

pub bounds-out-at-2 : goal.bounds-out-at-2
bounds-out-at-2 c = simp length-set (omega (arith, room c))

pub overflow_add-result : goal.overflow_add-result
overflow_add-result c = omega (arith, room c)

pub shape_of-out : goal.shape_of-out
shape_of-out c = simp length-set

pub returns : goal.returns
returns c = member-some _ _ _ _ _ c.if-set-eq0.false
