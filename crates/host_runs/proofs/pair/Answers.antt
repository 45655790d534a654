-- `host_runs::pair` meets its contract: the answer of the call is handed out. Assumes nothing.
use mathlib.Core.Path.{◌∙◌, sym, ap}
use mathlib.Core.List.{List}
use Prim.Native.Nat.{ℕ}
use Rattle.host_answers.specs.Answers.{bounds_values}
use Rattle.host_answers.proofs.GivenLaws.{laid-is}
use Rattle.host_runs.proofs.pair.Goals as goal

pub returns-clause-res : goal.returns-clause-res
returns-clause-res c =
    c.give_pair.ensures.res ∙ laid-is bounds_values 2 c.pair-answer.result _ _ c.args.res.now c.pair-answer.ensures.bounds c.give_pair.ensures.number
