-- `sheet_order::insertion_place` meets its contract. The loop's invariant: the place is i and that among the events from i on. Assumes nothing.
use mathlib.Core.Path.{◌≡◌}
use Prim.Native.Nat.{◌+◌, ◌-◌, ◌*◌}
use lib.ListN.{drop}
use Rattle.plan.specs.Lists.{events_of}
use Rattle.sheet_order.specs.Order.{place_of}
use Rattle.sheet_order.specs.Inserted.{probability}
use Rattle.sheet_order.proofs.insertion_place.Given as goal

abbrev pub invariant-loop-i : goal.invariant-loop-i
invariant-loop-i l =
    l.i + place_of probability l.q (events_of (l.count - l.i) (drop (4 * l.i) l.words)) ≡ place_of probability l.q (events_of l.count l.words)
