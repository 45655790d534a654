-- `plan_reading::reader::fill_events` meets its contract. The loop's invariant: the events from `at` on are accepted, and with them laid down in their places
-- the array is as with all of them. Assumes nothing.
use mathlib.Core.Path.{◌≡◌}
use Prim.Native.Nat.{ℕ, ◌-◌, ◌*◌}
use lib.ListN.{drop}
use lib.Seq.{sets}
use Rattle.plan.specs.Lists.{event_words}
use Rattle.plan.specs.File.{events_refusal, events_at}
use Rattle.plan_reading.proofs.reader.fill_events.Given as goal

abbrev pub invariant-loop-i : goal.invariant-loop-i
invariant-loop-i l =
    ((before : ℕ) × (events_refusal l.nodes l.links before (l.count - l.i) (drop l.at l.s) ≡ 0))
    × (sets l.words (4 * l.i) (event_words (events_at (l.count - l.i) (drop l.at l.s))) ≡ sets l.initial.words 0 (event_words (events_at l.count (drop l.start l.s))))
