-- `plan_lists::copy_first` meets its contract: the loop has laid down the items before `i`. Assumes nothing.
use mathlib.Core.Path.{◌≡◌}
use lib.ListN.{take}
use lib.Seq.{sets}
use Rattle.plan_lists.proofs.copy_first.Given as goal

abbrev pub invariant-loop-i : goal.invariant-loop-i
invariant-loop-i g l = l.to ≡ sets l.initial.to l.at (take l.i l.from)
