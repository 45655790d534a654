use mathlib.Core.Path.{◌≡◌}
use Prim.Native.Nat.{◌-◌, ◌*◌, ◌/◌}
use lib.ListN.{length, drop}
use Rattle.network.specs.Code.{outage}
use Rattle.windows.specs.Windows.{windows_of, out_at}
use Rattle.windows.proofs.out_at.Given as goal

abbrev pub invariant-loop-i : goal.invariant-loop-i
invariant-loop-i l = outage l.out ≡ out_at (windows_of (length l.words / 5 - l.i) (drop (5 * l.i) l.words)) l.minute
