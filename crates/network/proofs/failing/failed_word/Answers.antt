-- `network::failing::failed_word` meets its contract. The loop's invariant: the events still to come, failing beside what has been gathered,
-- give what the whole set gives beside the start. Assumes nothing.
use mathlib.Core.Path.{sym, ◌∙◌}
use Prim.Native.Nat.{◌+◌, ◌<◌}
use native.Mathlib.Omega.{arith}
use Rattle.sets.proofs.Laws.{bit-shl}
use Rattle.network.specs.Code.{outage}
use Rattle.network.proofs.Events.{index_below, rest-shifted, outage-move, outage-none}
use Rattle.network.proofs.failing.failed_word.Goals.{In-Some}
use Rattle.network.proofs.failing.failed_word.Goals as goal

-- the element is the number of an event
below : (c : In-Some) → c.args.base + c.in-Some.i < c.args.count
below c =
    let a = c.args in
    index_below a.count a.base a.set c.loop-i.i-iterator.left c.in-Some.i c.requires.1 c.loop-i.invariant.0 c.in-Some.ensures.steps.found

pub overflow_add-base : goal.overflow_add-base
overflow_add-base c = omega (arith, below c)

pub failed_with_event-f-requires : goal.failed_with_event-f-requires
failed_with_event-f-requires c = omega (arith, below c)

pub loop-i-preserved : goal.loop-i-preserved
loop-i-preserved c =
    let a = c.args in
    let loop = c.loop-i in
    let taken = c.in-Some.ensures.steps in (
      omega (arith, taken.smaller, loop.invariant.0),
      outage-move a.count a.events.now c.requires.0 (outage loop.f) _ _ _
          (a.base + c.in-Some.i)
          c.failed_with_event-f.ensures
          (below (goal.at.loop-i-preserved c).In-Some)
          (bit-shl loop.i-iterator.left a.base c.in-Some.i ∙ taken.found)
          (rest-shifted a.base taken)
          ∙ loop.invariant.1,
    )

pub returns : goal.returns
returns c =
    let a = c.args in
    sym (outage-none a.count a.events.now c.requires.0 (outage c.loop-i.f) c.loop-i.i-iterator.left a.base c.in-None.ensures.steps.0)
    ∙ c.loop-i.invariant.1
