use mathlib.Core.Path.{◌≡◌}
use Prim.Native.Nat.{◌-◌, ◌*◌}
use lib.ListN.{drop}
use Rattle.mass.specs.Split.{certain}
use Rattle.plan.specs.Lists.{events_of}
use Rattle.plan.specs.LentLists.{event_list_refusal}
use Rattle.plan_lists.proofs.event_list_refusal.Given as goal

abbrev pub invariant-loop-i : goal.invariant-loop-i
invariant-loop-i l =
    event_list_refusal l.nodes l.links l.before (events_of (l.count - l.i) (drop (4 * l.i) l.words)) ≡ event_list_refusal l.nodes l.links certain (events_of l.count l.words)
