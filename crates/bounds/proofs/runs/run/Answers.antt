-- `bounds::runs::run` meets its contract: with no window nothing more is tested, and nothing is out. Assumes nothing.
use mathlib.Core.Path.{◌≡◌, refl, ◌∙◌}
use mathlib.Core.List.{[]}
use Prim.Native.Nat.{ℕ}
use Rattle.mass.specs.Refusal.{first}
use Rattle.network.specs.Outage.{intact}
use Rattle.windows.specs.Windows.{windows_of, out_at, taken_out, work_refusal}
use Rattle.bounds.specs.Calls.{run_at_number}
use Rattle.bounds.proofs.Theorems.{last-passes}
use Rattle.bounds.proofs.runs.run.Goals as goal

fair : (nodes links : ℕ) → work_refusal nodes links [] 0 ≡ 0
unfolding work_refusal windows_of first
fair nodes links = refl

nothing-out : taken_out [] 0 ≡ intact
unfolding windows_of out_at
nothing-out = refl

pub returns-clause-number : goal.returns-clause-number
unfolding run_at_number
returns-clause-number c = c.run_at.ensures.number ∙ last-passes _ _ (fair c.args.h.nodes c.args.h.links)

pub returns-clause-lowers : goal.returns-clause-lowers
returns-clause-lowers c = rw nothing-out at c.run_at.ensures.lowers

pub returns-clause-uppers : goal.returns-clause-uppers
returns-clause-uppers c = rw nothing-out at c.run_at.ensures.uppers

pub returns-clause-demand3 : goal.returns-clause-demand3
returns-clause-demand3 c = rw nothing-out at c.run_at.ensures.demand3
