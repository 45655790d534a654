-- `thresholds::call::thresholds` meets its contract: the walk of the accepted plan fills the lists. Assumes nothing.
use Rattle.thresholds.proofs.Outcome.{call-done}
use Rattle.thresholds.proofs.call.thresholds.Goals as goal

pub returns : goal.returns
returns c =
    let a = c.args in
    let done = c.fill_blocks.ensures in
    let whole = call-done a.h a.links.now a.events.now a.list.now a.lower.now a.upper.now _ _ _ _ _ _ c.header_at.ensures c.in_ok-accept_thresholds.ensures.accepted.0.denoted (done.answer, (done.lowers, (done.uppers, done.demand3))) in
    record {
      number = c.in_ok-accept_thresholds.ensures.number;
      answer = whole.0;
      lowers = whole.1.0;
      uppers = whole.1.1.0;
      demand3 = whole.1.1.1;
    }
