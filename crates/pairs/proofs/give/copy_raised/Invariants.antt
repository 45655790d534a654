-- `pairs::give::copy_raised` meets its contract: the loop has laid down the entries before i. Assumes nothing.
use mathlib.Core.Path.{◌≡◌}
use mathlib.Core.List.{map}
use Prim.Native.Nat.{◌+◌, ◌-◌}
use lib.ListN.{take, drop}
use lib.Seq.{sets}
use Rattle.pairs.proofs.give.copy_raised.Given as goal

abbrev pub invariant-loop-i : goal.invariant-loop-i
invariant-loop-i l = l.to ≡ sets l.initial.to l.start (map (λ x. l.rest + x) (take (l.i - l.start) (drop l.start l.from)))
