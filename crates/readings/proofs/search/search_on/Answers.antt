-- `readings::search::search_on` meets its contract: the invariant is `Seek`, the measure the ends left. Assumes nothing.
use mathlib.Core.Path.{sym, ◌∙◌}
use native.Mathlib.Omega.{arith}
use Rattle.readings.proofs.Seek.{ended, found_here, turned}
use Rattle.readings.proofs.search.search_on.Goals as goal

pub returns-in_err-x : goal.returns-in_err-x
returns-in_err-x c =
    c.from_residual.ensures ∙ ended _ _ _ _ _ _ _ _ _ _ _ c.loop-x.invariant _ _ c.next_relevant-r.ensures c.in_err-x.was

pub returns-then-cut_by : goal.returns-then-cut_by
returns-then-cut_by c =
    found_here _ _ _ _ _ _ _ _ _ _ _ c.loop-x.invariant _ _ c.next_relevant-r.ensures c.in_ok-x.was
    (sym c.cut_by.ensures ∙ c.if-cut_by.true)
    (omega arith)

pub loop-x-preserved : goal.loop-x-preserved
loop-x-preserved c =
    turned _ _ _ _ _ _ _ _ _ _ _ c.loop-x.invariant _ _ c.next_relevant-r.ensures c.in_ok-x.was
    (sym c.cut_by.ensures ∙ c.if-cut_by.false)
