-- `plan_writing::put_events` meets its contract: what is left, laid down from the position on, makes the whole. Assumes nothing.
use mathlib.Core.Path.{◌≡◌}
use Prim.Native.Nat.{◌+◌, ◌-◌, ◌*◌}
use lib.ListN.{length, drop}
use lib.Seq.{sets}
use Rattle.plan.specs.Lists.{events_of}
use Rattle.plan.specs.Layout.{event_bytes}
use Rattle.plan_writing.proofs.put_events.Given as goal

abbrev pub invariant-loop-i : goal.invariant-loop-i
invariant-loop-i l =
    (length l.out ≡ length l.initial.out)
    × (l.next + length (event_bytes (events_of (l.count - l.i) (drop (4 * l.i) l.words))) ≡ l.start + length (event_bytes (events_of l.count l.words)))
    × (sets l.out l.next (event_bytes (events_of (l.count - l.i) (drop (4 * l.i) l.words))) ≡ sets l.initial.out l.start (event_bytes (events_of l.count l.words)))
