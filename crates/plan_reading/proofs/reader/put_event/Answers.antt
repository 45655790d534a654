-- `plan_reading::reader::put_event` meets its contract. Assumes nothing.
use Rattle.plan_reading.proofs.ReaderLaws.{event-put}
use Rattle.plan_reading.proofs.reader.put_event.Goals as goal

pub returns : goal.returns
returns c =
    let a = c.args in event-put a.words.now a.at a.q a.m.nodes a.m.low a.m.high
