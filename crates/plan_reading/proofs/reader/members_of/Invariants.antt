-- `plan_reading::reader::members_of` meets its contract. The loop's invariant: the members from `at` on are accepted; the sets so far with those of the
-- members from `at` on are the whole sets; and the sets so far hold no element of rank `least` or more. Assumes nothing.
use mathlib.Core.Path.{◌≡◌}
use Prim.Native.Nat.{◌+◌, ◌-◌, ◌^◌, ◌<◌}
use lib.ListN.{drop}
use Rattle.sets.specs.Sets.{joined}
use Rattle.plan.specs.File.{members_refusal, set_of}
use Rattle.plan_reading.proofs.reader.members_of.Given as goal

abbrev pub invariant-loop : goal.invariant-loop
invariant-loop l =
    (members_refusal l.nodes l.links l.least (l.count - l.counter) (drop l.at l.s) ≡ 0)
    × (l.sets.nodes + set_of 0 (l.count - l.counter) (drop l.at l.s) ≡ set_of 0 l.count (drop l.start l.s))
    × (joined l.sets.low l.sets.high + set_of 1 (l.count - l.counter) (drop l.at l.s) ≡ set_of 1 l.count (drop l.start l.s))
    × (l.sets.nodes < 2 ^ l.least)
    × (joined l.sets.low l.sets.high < 2 ^ (l.least - 256))
    × (l.sets.low < 2 ^ 64)
