-- `network::failing::failed_word` meets its contract. The loop's invariant: the events still to come, failing beside what has been gathered,
-- give what the whole set gives beside the start. Assumes nothing.
use mathlib.Core.Path.{◌≡◌}
use Prim.Native.Nat.{◌*◌, ◌^◌, ◌≤◌}
use Rattle.plan.specs.Lists.{events_of}
use Rattle.network.specs.Outage.{outage_of}
use Rattle.network.specs.Code.{outage}
use Rattle.network.proofs.failing.failed_word.Given as goal

abbrev pub invariant-loop-i : goal.invariant-loop-i
invariant-loop-i l =
    let left = l.i-iterator.left in
    (left ≤ l.set) × (outage_of (outage l.f) (events_of l.count l.events) (left * 2 ^ l.base) ≡ outage_of (outage l.initial.f) (events_of l.count l.events) (l.set * 2 ^ l.base))
