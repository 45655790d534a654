-- `text::fields::put_field` meets its contract. Assumes nothing.
use native.Mathlib.Omega.{arith}
use Rattle.text.proofs.FieldLaws.{field-long, field-laid}
use Rattle.text.proofs.fields.put_field.Goals as goal

pub put_decimal-last-requires : goal.put_decimal-last-requires
put_decimal-last-requires c = omega (arith, c.requires, field-long c.args.x c.args.end)

pub bounds-out-last : goal.bounds-out-last
bounds-out-last c =
    omega (arith, c.put_decimal-last.auto.out, c.put_decimal-last.ensures.1, c.requires, field-long c.args.x c.args.end)

pub overflow_add-result : goal.overflow_add-result
overflow_add-result c =
    omega (arith, c.put_decimal-last.auto.out, c.put_decimal-last.ensures.1, c.requires, field-long c.args.x c.args.end)

pub returns : goal.returns
returns c = field-laid _ _ _ _ _ _ c.put_decimal-last.ensures
