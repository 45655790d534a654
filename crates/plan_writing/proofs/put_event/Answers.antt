-- `plan_writing::put_event` meets its contract: each part is laid down where the one before it ends. Assumes nothing.
use mathlib.Core.Path.{◌≡◌, ◌∙◌}
use mathlib.Core.List.{[], ◌∷◌}
use Prim.Native.Nat.{◌+◌, ◌*◌}
use native.Mathlib.Omega.{arith}
use lib.ListN.{length}
use Rattle.plan.specs.Lists.{event_of}
use Rattle.plan.specs.Layout.{elements, event_bytes}
use Rattle.plan_writing.proofs.SizeLaws.{length-one-event}
use Rattle.plan_writing.proofs.WriterLaws.{event-laid}
use Rattle.plan_writing.proofs.put_event.Goals.{After-put_members-a, After-put_members-b, After-put_number, After-put_number-2, Start}
use Rattle.plan_writing.proofs.put_event.Goals as goal

-- the room that the event takes
size : (c : Start)
    → length (event_bytes (event_of c.args.q c.args.nodes c.args.low c.args.high ∷ []))
    ≡ 5 + 2 * (length (elements 64 0 c.args.nodes) + length (elements 64 0 c.args.low) + length (elements 64 64 c.args.high))
size c = length-one-event c.args.q c.args.nodes c.args.low c.args.high c.ranges.low.fits

-- the output keeps its length
long₁ : (c : After-put_number) → length c.put_number.new.out ≡ length c.args.out.now
long₁ c = c.put_number.auto.out

long₂ : (c : After-put_number-2) → length c.put_number-2.new.out ≡ length c.args.out.now
long₂ c = c.put_number-2.auto.out ∙ (c.put_number.auto.out)

long₃ : (c : After-put_members-a) → length c.put_members-a.new.out ≡ length c.args.out.now
long₃ c = c.put_members-a.auto.out ∙ (c.put_number-2.auto.out ∙ (c.put_number.auto.out))

long₄ : (c : After-put_members-b) → length c.put_members-b.new.out ≡ length c.args.out.now
long₄ c = c.put_members-b.auto.out ∙ (c.put_members-a.auto.out ∙ (c.put_number-2.auto.out ∙ (c.put_number.auto.out)))

pub put_number-requires : goal.put_number-requires
put_number-requires c = omega (arith, size (goal.at.put_number-requires c).Start, c.requires)

pub overflow_add-at : goal.overflow_add-at
overflow_add-at c = omega (arith, size (goal.at.overflow_add-at c).Start, c.requires)

pub put_number-requires-2 : goal.put_number-requires-2
put_number-requires-2 c = omega (arith, size (goal.at.put_number-requires-2 c).Start, c.requires, long₁ (goal.at.put_number-requires-2 c).After-put_number)

pub overflow_add-at-2 : goal.overflow_add-at-2
overflow_add-at-2 c = omega (arith, size (goal.at.overflow_add-at-2 c).Start, c.requires)

pub put_members-a-requires : goal.put_members-a-requires
put_members-a-requires c =
    omega (arith, size (goal.at.put_members-a-requires c).Start, c.requires, long₂ (goal.at.put_members-a-requires c).After-put_number-2)

pub put_members-b-requires : goal.put_members-b-requires
put_members-b-requires c =
    omega (arith, size (goal.at.put_members-b-requires c).Start, c.requires, long₃ (goal.at.put_members-b-requires c).After-put_members-a, c.put_members-a.ensures.1)

pub put_members-requires : goal.put_members-requires
put_members-requires c =
    omega (arith, size (goal.at.put_members-requires c).Start, c.requires, long₄ (goal.at.put_members-requires c).After-put_members-b, c.put_members-b.ensures.1, c.put_members-a.ensures.1)

pub shape_of-out : goal.shape_of-out
shape_of-out c = c.put_members.auto.out ∙ long₄ (goal.at.shape_of-out c).After-put_members-b

pub returns : goal.returns
returns c =
    event-laid _ _ _ _ _ _ _ _ _ _ _ _ _ _ _
    c.ranges.low.fits
    c.member_count.ensures
    c.put_number.ensures
    c.put_number-2.ensures
    c.put_members-a.ensures
    c.put_members-b.ensures
    c.put_members.ensures
