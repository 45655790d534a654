-- `host_runs::run_at` meets its contract: the answer of the call is handed out. Assumes nothing.
use mathlib.Core.Path.{◌∙◌, sym, ap}
use mathlib.Core.List.{List}
use Prim.Native.Nat.{ℕ}
use Rattle.host_answers.specs.Answers.{totals_values}
use Rattle.host_answers.proofs.GivenLaws.{laid-is}
use Rattle.host_runs.proofs.run_at.Goals as goal

pub returns-clause-res : goal.returns-clause-res
returns-clause-res c =
    c.give_totals.ensures.res ∙ laid-is totals_values 3 c.run_at-answer.result _ _ c.args.res.now c.run_at-answer.ensures.totals c.give_totals.ensures.number
