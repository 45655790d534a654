use mathlib.Core.Path.{◌≡◌}
use Prim.Native.Nat.{◌-◌, ◌*◌}
use lib.ListN.{drop}
use Rattle.mass.specs.Refusal.{each}
use Rattle.windows.specs.Windows.{windows_of, window_test}
use Rattle.windows.proofs.window_list_refusal.Given as goal

abbrev pub invariant-loop-i : goal.invariant-loop-i
invariant-loop-i l =
    each (window_test l.nodes l.links) (windows_of (l.count - l.i) (drop (5 * l.i) l.words)) ≡ each (window_test l.nodes l.links) (windows_of l.count l.words)
