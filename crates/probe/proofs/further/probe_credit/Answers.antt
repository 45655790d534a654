-- `probe::further::probe_credit` meets its contract: the call of `host_readings` is handed on. Assumes nothing.
use Rattle.probe.proofs.further.probe_credit.Goals as goal

pub returns : goal.returns
returns c =
    let same = c.header-h.ensures in
    record {
      number = rw same at c.credit.ensures.number;
      res = rw same at c.credit.ensures.res;
    }
