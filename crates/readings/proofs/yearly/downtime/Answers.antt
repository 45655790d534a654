-- `readings::yearly::downtime` meets its contract: the bounds of a pair are not refused, and enclose its exact downtime. Assumes nothing.
use Rattle.std.proofs.lemmas.Result.{err_from_is_err_and}
use mathlib.Core.Path.{◌∙◌}
use Rattle.mass.proofs.RefusalLaws.{first-none, number-some}
use Rattle.readings.proofs.DowntimeLaws.{none-bounds}
use Rattle.readings.proofs.Theorems.{bounds-enclose}
use Rattle.readings.proofs.yearly.downtime.Goals as goal

pub returns-in_err-mass_test-clause-given : goal.returns-in_err-mass_test-clause-given
returns-in_err-mass_test-clause-given c =
    let p = err_from_is_err_and c.from_residual.result c.from_residual.ensures.1 in
    rw p.1 (none-bounds _ _ (λ z. number-some _ (c.in_err-mass_test.ensures ∙ (first-none _ _ z).0)))

pub returns-clause-enclosed : goal.returns-clause-enclosed
returns-clause-enclosed c = rw c.seconds_of.ensures (bounds-enclose c.args.lower c.args.upper)
