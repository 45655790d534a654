-- `record_runs::copying::copy_plan` meets its contract: a plan that was read into records and is written again is the file that was read.
-- Assumes nothing.
use native.Mathlib.Omega.{arith}
use Rattle.plan_reading.proofs.LoadedLaws.{bytes-each}
use Rattle.record_runs.proofs.CopyLaws.{copied-plan}
use Rattle.record_runs.proofs.copying.copy_plan.Goals as goal

pub returns : goal.returns
returns c =
    let a = c.args in
    let r = c.in_ok-header.ensures in
    let w = c.write_records in
    let done =
    copied-plan a.s.now (bytes-each a.s.now (λ i. omega (arith, c.type_inv.s i))) _ _ _ a.out.now w.new.out w.result
    r.number r.header r.links r.events (w.ensures.number, (w.ensures.size, w.ensures.out_after))
    in
    record { number = done.0; size = done.1.0; out = done.1.1 }
