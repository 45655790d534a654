-- `thresholds::lists::falls` meets its contract: the thresholds that are left fall as all do. Assumes nothing.
use mathlib.Core.Path.{◌≡◌}
use Prim.Native.Nat.{suc}
use lib.ListN.{drop}
use Rattle.mass.specs.Split.{whole}
use Rattle.thresholds.specs.Thresholds.{falls}
use Rattle.thresholds.proofs.lists.falls.Given as goal

abbrev pub invariant-loop-t : goal.invariant-loop-t
invariant-loop-t l = falls l.above (drop l.t-index l.list) ≡ falls (suc whole) l.list
