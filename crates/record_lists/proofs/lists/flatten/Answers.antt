-- `record_lists::lists::flatten` meets its contract. Assumes nothing.
use mathlib.Core.Path.{◌≡◌, refl, ◌∙◌}
use native.Mathlib.Omega.{arith}
use Prim.Native.Nat.{◌<◌, min}
use lib.ListN.{length}
use Rattle.record_lists.specs.Events.{words_of}
use Rattle.record_lists.proofs.EventLaws.{flatten-more, take-cap}
use Rattle.record_lists.proofs.lists.flatten.Goals as goal

pub loop-i-init : goal.loop-i-init
unfolding words_of
loop-i-init c = refl

pub loop-i-preserved : goal.loop-i-preserved
loop-i-preserved c =
    let es = c.args.events.now in
    let i = c.loop-i.i in
    let h : i < length es = omega (arith, c.min-i-end.ensures) in
    rw c.loop-i.invariant at c.put_event.ensures ∙ flatten-more i es c.args.words.now _ h

pub returns : goal.returns
returns c =
    let es = c.args.events.now in
    let e : c.loop-i.i ≡ min (length es) 128 = omega (arith, c.min-i-end.ensures) in
    rw (e, take-cap 128 es) at c.loop-i.invariant
