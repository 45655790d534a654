use mathlib.Core.Path.{◌≡◌}
use Prim.Native.Nat.{◌-◌}
use lib.ListN.{drop}
use Rattle.mass.specs.Split.{certain}
use Rattle.plan.specs.File.{events_refusal}
use Rattle.plan.proofs.file.events_refusal.Given as goal

abbrev pub invariant-loop : goal.invariant-loop
invariant-loop l = events_refusal l.nodes l.links l.before (l.count - l.counter) (drop l.at l.s) ≡ events_refusal l.nodes l.links certain l.count (drop l.start l.s)
