-- `sheet_order::insertion_place` meets its contract. The loop's invariant: the place is i and that among the events from i on. Assumes nothing.
use mathlib.Core.Path.{◌≡◌, ◌∙◌}
use native.Mathlib.Omega.{arith}
use Rattle.sheet_order.proofs.InsertionLaws.{place-start, place_here, place-later, place_end}
use Rattle.sheet_order.proofs.insertion_place.Goals as goal

pub loop-i-init : goal.loop-i-init
loop-i-init c = place-start _ _ _

pub returns-then-words-i : goal.returns-then-words-i
returns-then-words-i c =
    let a = c.args in
    (place_here a.words.now a.q a.count c.loop-i.i c.loop-i-test.true c.if-words-i.true ∙ c.loop-i.invariant, omega arith)

pub loop-i-preserved : goal.loop-i-preserved
loop-i-preserved c =
    let a = c.args in
    place-later a.words.now a.q a.count c.loop-i.i c.loop-i-test.true c.if-words-i.false ∙ c.loop-i.invariant

pub returns : goal.returns
returns c =
    let a = c.args in
    let e : a.count ≡ c.loop-i.i = omega arith in
    (e ∙ place_end a.words.now a.q a.count c.loop-i.i c.loop-i-test.false ∙ c.loop-i.invariant, omega arith)
