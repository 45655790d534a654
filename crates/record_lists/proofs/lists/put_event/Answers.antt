-- `record_lists::lists::put_event` meets its contract. Assumes nothing.
use Prim.Native.Nat.{◌*◌}
use Rattle.plan_reading.proofs.ReaderLaws.{event-put}
use Rattle.record_lists.specs.Events.{words_of}
use Rattle.record_lists.proofs.lists.put_event.Goals as goal

pub returns : goal.returns
unfolding words_of
returns c =
    let a = c.args in event-put a.words.now (4 * a.i) a.e.probability a.e.nodes a.e.links_low a.e.links_high
