-- `plan_writing::sizes::events_size` meets its contract: the bytes counted and those of the events that are left make all. Assumes nothing.
use mathlib.Core.Path.{◌≡◌}
use Prim.Native.Nat.{◌+◌, ◌-◌, ◌*◌}
use lib.ListN.{length, drop}
use Rattle.plan.specs.Lists.{events_of}
use Rattle.plan.specs.Layout.{event_bytes}
use Rattle.plan_writing.proofs.sizes.events_size.Given as goal

abbrev pub invariant-loop-i : goal.invariant-loop-i
invariant-loop-i l =
    l.size + length (event_bytes (events_of (l.count - l.i) (drop (4 * l.i) l.words))) ≡ length (event_bytes (events_of l.count l.words))
