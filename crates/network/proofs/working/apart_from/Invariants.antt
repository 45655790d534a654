-- `network::working::apart_from` meets its contract. The loop's invariant: with the links at the nodes still to come taken out, the set is what it
-- is to be. Assumes nothing.
use Prim.Native.Nat.{◌^◌, ◌<◌}
use Rattle.sets.specs.Sets.{joined}
use Rattle.network.proofs.NodeLinks.{Apart}
use Rattle.network.proofs.working.apart_from.Given as goal

abbrev pub invariant-loop-v : goal.invariant-loop-v
invariant-loop-v l =
    (l.apart.low < 2 ^ 64)
    × Apart l.table (joined l.initial.apart.low l.initial.apart.high) l.nodes (joined l.apart.low l.apart.high) l.v-iterator.left
