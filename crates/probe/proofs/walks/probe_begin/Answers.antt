-- `probe::walks::probe_begin` meets its contract: the answer of the call is handed out. Assumes nothing.
use Rattle.probe.proofs.walks.probe_begin.Goals as goal

pub returns : goal.returns
returns c =
    let same = c.header-h.ensures in
    record {
      number = rw same at c.begin.ensures.number;
      state = rw same at c.begin.ensures.state;
      begun = rw same at c.begin.ensures.begun;
    }
