-- `network::failing::failed_by` meets its contract: the events of the low word, and then those of the high word. Assumes nothing.
use Rattle.network.specs.Code.{outage}
use Rattle.network.proofs.Events.{outage-two}
use Rattle.network.proofs.failing.failed_by.Goals as goal

pub returns : goal.returns
returns c =
    let a = c.args in
    outage-two a.count a.events.now c.requires.0 (outage a.start) (outage c.failed_word-f.result) (outage c.failed_word.result)
    a.low a.high
    c.ranges.low.fits
    c.failed_word-f.ensures
    c.failed_word.ensures
