-- What `write` promises of its answer and of the output, in one statement.
-- Assumes nothing.
use Rattle.std.specs.Prelude.{Result, IfOk}
use mathlib.Core.Path.{◌≡◌}
use mathlib.Core.List.{List}
use Prim.Native.Nat.{ℕ}
use lib.ListN.{length}
use Rattle.mass.specs.Refusal.{number_in}
use Rattle.mass.specs.declared.refusal.Refusal.{Refusal}
use Rattle.plan.specs.Layout.{layout}
use Rattle.plan.specs.LentLists.{Lent, plan_lent}
use Rattle.plan.specs.Calls.{filled, write_number}

-- an answer of `write`, with what it leaves in the output
abbrev pub Outcome : Lent → List ℕ → List ℕ → Result ℕ Refusal → Type 0
Outcome l out left answer =
    (number_in answer ≡ write_number l (length out))
    × (IfOk answer (λ n. n ≡ length (layout (plan_lent l)))
    × (left ≡ filled (number_in answer) (layout (plan_lent l)) out))
