-- `sheets::reader::line_probability` meets its contract: the product of the line's three numbers. Assumes nothing.
use Rattle.sheets.proofs.CheckLaws.{inside}
use Rattle.sheets.proofs.reader.line_probability.Goals as goal

pub returns : goal.returns
returns c =
    let a = c.args in
    rw (
      c.product.ensures,
      c.number_at.ensures,
      inside 4 a.at a.s.now c.number_at-2.ensures,
      inside 8 a.at a.s.now c.number_at-3.ensures,
    )
