use mathlib.Core.Path.{◌≡◌}
use Prim.Native.Nat.{◌-◌, ◌*◌}
use lib.ListN.{drop}
use Rattle.plan.specs.Lists.{links_of}
use Rattle.plan.specs.LentLists.{link_list_refusal}
use Rattle.plan_lists.proofs.link_list_refusal.Given as goal

abbrev pub invariant-loop-i : goal.invariant-loop-i
invariant-loop-i l = link_list_refusal l.nodes (links_of (l.count - l.i) (drop (2 * l.i) l.links)) ≡ link_list_refusal l.nodes (links_of l.count l.links)
