use mathlib.Core.Path.{◌≡◌}
use Prim.Native.Nat.{◌-◌}
use lib.ListN.{drop}
use Rattle.plan.specs.File.{links_refusal}
use Rattle.plan.proofs.file.links_refusal.Given as goal

abbrev pub invariant-loop : goal.invariant-loop
invariant-loop l = links_refusal l.nodes (l.count - l.counter) (drop l.at l.s) ≡ links_refusal l.nodes l.count (drop l.start l.s)
