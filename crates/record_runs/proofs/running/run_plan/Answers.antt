-- `record_runs::running::run_plan` meets its contract: a run on a plan that was read into records is the run on the file's plan. Assumes nothing.
use native.Mathlib.Omega.{arith}
use Rattle.plan_reading.proofs.LoadedLaws.{bytes-each}
use Rattle.record_runs.proofs.FileLaws.{ran-plan}
use Rattle.record_runs.proofs.running.run_plan.Goals as goal

pub returns : goal.returns
returns c =
    let a = c.args in
    let r = c.in_ok-header.ensures in
    let w = c.run_records in
    let done =
    ran-plan a.s.now (bytes-each a.s.now (λ i. omega (arith, c.type_inv.s i))) _ _ _ a.lower.now a.upper.now w.new.lower w.new.upper w.result
    r.number r.header r.links r.events (w.ensures.number, (w.ensures.totals, (w.ensures.lowers, (w.ensures.uppers, w.ensures.demand3))))
    in
    record { number = done.0; totals = done.1.0; lowers = done.1.1.0; uppers = done.1.1.1.0; demand3 = done.1.1.1.1 }
