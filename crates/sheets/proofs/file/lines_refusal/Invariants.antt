use mathlib.Core.Path.{◌≡◌}
use Prim.Native.Nat.{◌-◌}
use lib.ListN.{drop}
use Rattle.sheets.specs.SheetFile.{lines_refusal}
use Rattle.sheets.proofs.file.lines_refusal.Given as goal

abbrev pub invariant-loop : goal.invariant-loop
invariant-loop l = lines_refusal l.nodes l.links (l.count - l.counter) (drop l.at l.s) ≡ lines_refusal l.nodes l.links l.count (drop l.start l.s)
