-- `text::fields::put_line` meets its contract: each field is laid down where the one before it ends. Assumes nothing.
use native.Mathlib.Omega.{arith}
use Rattle.text.proofs.FieldLaws.{line-long, line-laid}
use Rattle.text.proofs.fields.put_line.Goals as goal

pub put_field-second-requires : goal.put_field-second-requires
put_field-second-requires c =
    let a = c.args in
    omega (arith, c.requires, line-long a.a a.b a.c a.d)

pub put_field-third-requires : goal.put_field-third-requires
put_field-third-requires c =
    let a = c.args in
    omega (arith, c.requires, line-long a.a a.b a.c a.d, c.put_field-second.auto.out, c.put_field-second.ensures.1)

pub put_field-fourth-requires : goal.put_field-fourth-requires
put_field-fourth-requires c =
    let a = c.args in
    let long = line-long a.a a.b a.c a.d in
    omega (arith, c.requires, long, c.put_field-second.auto.out, c.put_field-second.ensures.1, c.put_field-third.auto.out, c.put_field-third.ensures.1)

pub put_field-requires : goal.put_field-requires
put_field-requires c =
    let a = c.args in
    let long = line-long a.a a.b a.c a.d in
    let p = c.put_field-second in
    let q = c.put_field-third in
    let r = c.put_field-fourth in
    omega (arith, c.requires, long, p.auto.out, p.ensures.1, q.auto.out, q.ensures.1, r.auto.out, r.ensures.1)

pub returns : goal.returns
returns c =
    line-laid _ _ _ _ _ _ _ _ _ _ _ _ _ _ c.put_field-second.ensures c.put_field-third.ensures c.put_field-fourth.ensures c.put_field.ensures
