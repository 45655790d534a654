-- `probe::probe_pair` meets its contract: the call of `host_runs` is handed on. Assumes nothing.
use Rattle.probe.proofs.probe_pair.Goals as goal

pub returns : goal.returns
returns c =
    let same = c.header-h.ensures in
    record {
      number = rw same at c.pair.ensures.number;
      res = rw same at c.pair.ensures.res;
    }
