-- `sheet_order::make_room` meets its contract. The loop's invariant: the words from i on are moved, and no others. Assumes nothing.
use mathlib.Core.Path.{◌∙◌, ap}
use mathlib.Core.List.{List}
use Prim.Native.Nat.{ℕ, ◌+◌, ◌-◌}
use native.Mathlib.Omega.{arith}
use lib.ListN.{get_or, set}
use Rattle.sheet_order.proofs.InsertionLaws.{room-start, room-step, room-end}
use Rattle.sheet_order.proofs.make_room.Goals as goal

pub loop-i-init : goal.loop-i-init
loop-i-init c = (c.requires.0, room-start c.args.words.now c.args.to)

pub loop-i-preserved : goal.loop-i-preserved
loop-i-preserved c =
    let a = c.args in (
      omega arith,
      ap (λ (w : List ℕ). set w (c.loop-i.i - 1 + 4) (get_or w (c.loop-i.i - 1) 0)) c.loop-i.invariant.1
          ∙ room-step a.words.now c.loop-i.i a.to (omega arith) c.loop-i.auto.i,
    )

pub returns : goal.returns
returns c =
    c.loop-i.invariant.1 ∙ room-end _ _ c.loop-i.i _ c.loop-i.invariant.0 c.loop-i-test.false
