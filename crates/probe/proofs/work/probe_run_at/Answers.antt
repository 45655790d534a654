-- `probe::work::probe_run_at` meets its contract: the call of `host_runs` is handed on. Assumes nothing.
use Rattle.probe.proofs.work.probe_run_at.Goals as goal

pub returns : goal.returns
returns c =
    let same = c.header-h.ensures in
    record {
      number = rw same at c.run_at.ensures.number;
      lowers = rw same at c.run_at.ensures.lowers;
      uppers = rw same at c.run_at.ensures.uppers;
      res = rw same at c.run_at.ensures.res;
    }
