-- `bounds::runs::run_at` meets its contract: the tests in their order, then what the walk of the arrays gave. Assumes nothing.
use Rattle.mass.proofs.RefusalLaws.{stops, passes, last, hands-on}
use Rattle.windows.specs.Windows.{taken_out}
use Rattle.bounds.specs.Calls.{run_number, run_at_number}
use Rattle.bounds.proofs.Outcome.{enclosed-all}
use Rattle.bounds.proofs.runs.run_at.Goals as goal

pub returns-in_err-accept-clause-number : goal.returns-in_err-accept-clause-number
unfolding run_number run_at_number
returns-in_err-accept-clause-number c = hands-on _ _ c.from_residual.ensures (stops _ _ (stops _ _ c.in_err-accept.ensures.number))

pub returns-in_err-bounds_test-clause-number : goal.returns-in_err-bounds_test-clause-number
unfolding run_number run_at_number
returns-in_err-bounds_test-clause-number c =
    hands-on _ _ c.from_residual-in_err-bounds_test.ensures
    (stops _ _ (passes _ c.in_ok-accept.ensures.number (rw c.pair_count.ensures at c.in_err-bounds_test.ensures.number)))

pub returns-in_err-work_refusal-clause-number : goal.returns-in_err-work_refusal-clause-number
unfolding run_number run_at_number
returns-in_err-work_refusal-clause-number c =
    hands-on _ _ c.from_residual-in_err-work_refusal.ensures
    (passes _ (passes _ c.in_ok-accept.ensures.number (rw c.pair_count.ensures at c.in_ok-bounds_test.ensures.number)) (last c.in_err-work_refusal.ensures))

pub returns-clause-number : goal.returns-clause-number
unfolding run_number run_at_number
returns-clause-number c =
    passes _ (passes _ c.in_ok-accept.ensures.number (rw c.pair_count.ensures at c.in_ok-bounds_test.ensures.number)) (last c.in_ok-work_refusal.ensures)

pub returns-clause-demand3 : goal.returns-clause-demand3
returns-clause-demand3 c =
    let out = c.out_at-out.ensures in
    enclosed-all (taken_out c.args.windows.now c.args.minute) _ _ _ _ _ c.in_ok-accept.ensures.taken _ _ _ _ _ (rw c.pair_count.ensures at c.in_ok-bounds_test.ensures.there) c.fill_bounds.ensures.totals
    (rw out at c.fill_bounds.ensures.lowers)
    (rw out at c.fill_bounds.ensures.uppers)
