-- `topology::rounds::reach` meets its contract. The loop's invariant: what is seen is the set after round k, fresh is what round k + 1 adds, and
-- each round up to k has added a node. The measure: there are at most 64 rounds. Assumes nothing.
use mathlib.Core.Path.{◌≡◌}
use Prim.Native.Nat.{ℕ, suc, ◌-◌, ◌^◌, ◌<◌}
use Rattle.sets.specs.Sets.{bit}
use Rattle.topology.specs.Rounds.{itself}
use Rattle.topology.proofs.Round.{Turn}
use Rattle.topology.proofs.rounds.reach.Given as goal

abbrev pub invariant-loop-fresh : goal.invariant-loop-fresh
invariant-loop-fresh l = (k : ℕ) × (l.rounds ≡ suc k) × (l.seen < 2 ^ 64) × (l.fresh < 2 ^ 64) × Turn (itself (bit l.nodes l.v) l.v) l.rows k l.seen l.fresh

abbrev pub decreases-loop-fresh : goal.decreases-loop-fresh
decreases-loop-fresh l = 64 - l.rounds
