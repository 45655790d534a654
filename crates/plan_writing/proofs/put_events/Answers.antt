-- `plan_writing::put_events` meets its contract: what is left, laid down from the position on, makes the whole. Assumes nothing.
use mathlib.Core.Path.{◌≡◌, refl, ◌∙◌}
use mathlib.Core.List.{[], ◌∷◌}
use Prim.Native.Nat.{◌+◌, ◌-◌, ◌*◌}
use native.Mathlib.Omega.{arith}
use lib.ListN.{length, drop}
use Rattle.plan.specs.Lists.{events_of}
use Rattle.plan.specs.Layout.{event_bytes}
use Rattle.plan_lists.proofs.ListLaws.{event_at, all_left, some_left, one_fewer, none_left}
use Rattle.plan_writing.proofs.SizeLaws.{length-bytes-next}
use Rattle.plan_writing.proofs.WriterLaws.{laid_next, laid_end}
use Rattle.plan_writing.proofs.put_events.Goals.{In-loop-i}
use Rattle.plan_writing.proofs.put_events.Goals as goal

pub loop-i-init : goal.loop-i-init
loop-i-init c = rw all_left (refl, refl, refl)

next : (c : In-loop-i)
    → (let words = c.args.words.now in
    let i = c.loop-i.i in
    length (event_bytes (events_of (c.args.count - i) (drop (4 * i) words)))
    ≡ length (event_bytes (event_at words (4 * i) ∷ [])) + length (event_bytes (events_of (c.args.count - i - 1) (drop (4 * i + 4) words))))
next c = length-bytes-next c.args.words.now (4 * c.loop-i.i) _ (some_left _ _ c.loop-i-test.true)

pub put_event-next-requires : goal.put_event-next-requires
put_event-next-requires c = omega (arith, next (goal.at.put_event-next-requires c).In-loop-i, c.requires)

pub loop-i-preserved : goal.loop-i-preserved
loop-i-preserved c =
    let m = c.put_event-next in
    let l = c.loop-i in
    let on : 4 * (l.i + 1) ≡ 4 * l.i + 4 = omega arith in
    rw (one_fewer l.i c.args.count, on) (
      m.auto.out ∙ l.invariant.0,
      omega (arith, next (goal.at.loop-i-preserved c).In-loop-i, m.ensures.1, l.invariant.1),
      laid_next c.args.words.now _ _ _ _ (4 * l.i) _ (some_left _ _ c.loop-i-test.true) m.ensures.0 m.ensures.1 ∙ l.invariant.2,
    )

pub shape_of-out : goal.shape_of-out
shape_of-out c = c.loop-i.invariant.0

pub returns : goal.returns
returns c = laid_end (drop (4 * c.loop-i.i) c.args.words.now) _ _ _ (none_left _ _ c.loop-i-test.false) ∙ c.loop-i.invariant.2
