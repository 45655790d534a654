-- `plan::file::header_of` meets its contract. Assumes nothing.
use Rattle.plan.specs.Calls.{header_of}
use Rattle.plan.proofs.file.header_of.Goals as goal

pub returns : goal.returns
unfolding header_of
returns c =
    λ i.
    record {
      nodes = c.byte_at.ensures.is i;
      links = c.byte_at-2.ensures.is i;
      events = c.byte_at-3.ensures.is i;
      threshold = c.number_at.ensures i;
      cap = c.number_at-2.ensures i;
    }
