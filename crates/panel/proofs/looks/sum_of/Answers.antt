-- `panel::looks::sum_of` meets its contract. Assumes nothing.
use mathlib.Core.Path.{ap}
use Prim.Native.Nat.{ℕ}
use native.Mathlib.Omega.{arith}
use lib.ListN.{get_or}
use Rattle.panel.proofs.looks.sum_of.Goals as goal

pub returns-then-nodes-gt64 : goal.returns-then-nodes-gt64
returns-then-nodes-gt64 c = λ few. absurd (omega arith)

pub returns : goal.returns
returns c = λ few. ap (λ (i : ℕ). get_or c.args.sums.now i 0) c.place_of.ensures.0
