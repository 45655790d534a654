-- `topology_list::entries::find` meets its contract: none of the first i entries has the topology. Assumes nothing.
use mathlib.Core.Path.{◌≡◌}
use mathlib.Core.Bool.{false}
use Prim.Native.Nat.{ℕ, ◌<◌}
use Rattle.topology_list.specs.Entries.{same_topology}
use Rattle.topology_list.specs.Words.{topology_at}
use Rattle.topology_list.proofs.entries.find.Given as goal

abbrev pub invariant-loop-i : goal.invariant-loop-i
invariant-loop-i l = (j : ℕ) → j < l.i → same_topology (topology_at l.list j) l.t ≡ false
