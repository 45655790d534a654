use mathlib.Core.Path.{◌≡◌}
use Prim.Native.Nat.{◌-◌}
use lib.ListN.{drop}
use Rattle.plan.specs.File.{members_refusal}
use Rattle.plan.proofs.file.members_refusal.Given as goal

abbrev pub invariant-loop : goal.invariant-loop
invariant-loop l = members_refusal l.nodes l.links l.least (l.count - l.counter) (drop l.at l.s) ≡ members_refusal l.nodes l.links 0 l.count (drop l.start l.s)
