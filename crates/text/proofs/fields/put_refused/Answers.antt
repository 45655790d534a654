-- `text::fields::put_refused` meets its contract: the number stands after the word. Assumes nothing.
use native.Mathlib.Omega.{arith}
use Rattle.text.proofs.FieldLaws.{refused-long, refused-laid}
use Rattle.text.proofs.fields.put_refused.Goals as goal

pub copy_first-requires : goal.copy_first-requires
copy_first-requires c = (omega arith, omega (arith, c.requires, refused-long c.args.number))

pub put_field-requires : goal.put_field-requires
put_field-requires c = omega (arith, c.requires, refused-long c.args.number, c.copy_first.auto.to)

pub returns : goal.returns
returns c = refused-laid c.args.out.now _ _ _ (rw c.copy_first.ensures at c.put_field.ensures)
