-- `sheet_order::make_room` meets its contract. The loop's invariant: the words from i on are moved, and no others. Assumes nothing.
use mathlib.Core.Path.{◌≡◌}
use Prim.Native.Nat.{◌+◌, ◌-◌, ◌≤◌}
use lib.ListN.{take, drop}
use lib.Seq.{sets}
use Rattle.sheet_order.proofs.make_room.Given as goal

abbrev pub invariant-loop-i : goal.invariant-loop-i
invariant-loop-i l = (l.from ≤ l.i) × (l.words ≡ sets l.initial.words (l.i + 4) (take (l.to - l.i) (drop l.i l.initial.words)))
