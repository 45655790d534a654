-- `plan_writing::put_header` meets its contract: each part is laid down where the one before it ends. Assumes nothing.
use mathlib.Core.Path.{◌≡◌, ◌∙◌}
use native.Mathlib.Omega.{arith}
use lib.ListN.{length, length-set}
use Rattle.plan_writing.proofs.WriterLaws.{header-laid}
use Rattle.plan_writing.proofs.put_header.Goals.{After-put_number, After-put_number-2}
use Rattle.plan_writing.proofs.put_header.Goals as goal

-- the output keeps its length
long₁ : (c : After-put_number) → length c.put_number.new.out ≡ length c.args.out.now
long₁ c = c.put_number.auto.out ∙ simp length-set

long₂ : (c : After-put_number-2) → length c.put_number-2.new.out ≡ length c.args.out.now
long₂ c = c.put_number-2.auto.out ∙ simp length-set ((c.put_number.auto.out ∙ simp length-set))

pub bounds-out-1 : goal.bounds-out-1
bounds-out-1 c = simp length-set (omega arith)

pub bounds-out-2 : goal.bounds-out-2
bounds-out-2 c = simp length-set (omega arith)

pub put_number-requires : goal.put_number-requires
put_number-requires c = simp length-set (omega arith)

pub bounds-out-5 : goal.bounds-out-5
bounds-out-5 c = omega (arith, long₁ (goal.at.bounds-out-5 c).After-put_number)

pub bounds-out-6 : goal.bounds-out-6
bounds-out-6 c = simp length-set (omega (arith, long₁ (goal.at.bounds-out-6 c).After-put_number))

pub bounds-out-7 : goal.bounds-out-7
bounds-out-7 c = simp length-set (omega (arith, long₁ (goal.at.bounds-out-7 c).After-put_number))

pub put_number-requires-2 : goal.put_number-requires-2
put_number-requires-2 c = simp length-set (omega (arith, long₁ (goal.at.put_number-requires-2 c).After-put_number))

pub put_number-requires-3 : goal.put_number-requires-3
put_number-requires-3 c = omega (arith, long₂ (goal.at.put_number-requires-3 c).After-put_number-2)

pub shape_of-out : goal.shape_of-out
shape_of-out c = c.put_number-3.auto.out ∙ long₂ (goal.at.shape_of-out c).After-put_number-2

pub returns : goal.returns
returns c =
    header-laid c.args.out.now _ _ _ _ _ _ _ _ c.put_number.ensures c.put_number-2.ensures c.put_number-3.ensures
