-- `text::fields::put_decimal` meets its contract, by the number: that of the call of itself is a tenth. Assumes nothing.
use native.Mathlib.Omega.{arith}
use Rattle.text.proofs.FieldLaws.{small-long, large-long, small-laid, large-laid}
use Rattle.text.proofs.fields.+put_decimal.Goals as goal

pub bounds-out-at : goal.bounds-out-at
bounds-out-at t c = omega (arith, c.requires, small-long c.args.x c.if-x-lt10.true)

pub returns-then-x-lt10 : goal.returns-then-x-lt10
returns-then-x-lt10 t c = small-laid _ _ _ c.if-x-lt10.true

pub put_decimal-last-requires : goal.put_decimal-last-requires
put_decimal-last-requires t c = (omega arith, omega (arith, c.requires, large-long c.args.x c.if-x-lt10.false))

pub bounds-out-last : goal.bounds-out-last
bounds-out-last t c =
    omega (arith, c.put_decimal-last.auto.out, c.put_decimal-last.ensures.1, c.requires, large-long c.args.x c.if-x-lt10.false)

pub overflow_add-result-2 : goal.overflow_add-result-2
overflow_add-result-2 t c =
    omega (arith, c.put_decimal-last.auto.out, c.put_decimal-last.ensures.1, c.requires, large-long c.args.x c.if-x-lt10.false)

pub returns : goal.returns
returns t c = large-laid _ _ _ _ _ c.if-x-lt10.false c.put_decimal-last.ensures
