-- `sheets::reader::counts_of` meets its contract. Assumes nothing.
use Rattle.sheets.specs.SheetCalls.{counts_of}
use Rattle.sheets.proofs.reader.counts_of.Goals as goal

pub returns : goal.returns
unfolding counts_of
returns c = rw (c.byte_at.ensures.is, c.byte_at-2.ensures.is, c.byte_at-3.ensures.is)
