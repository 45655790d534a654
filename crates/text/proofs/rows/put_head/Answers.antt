-- `text::rows::put_head` meets its contract: each part is laid down where the one before it ends. Assumes nothing.
use native.Mathlib.Omega.{arith}
use Rattle.text.proofs.FieldLaws.{head-long, head-laid}
use Rattle.text.proofs.rows.put_head.Goals as goal

pub put_field-second-requires : goal.put_field-second-requires
put_field-second-requires c =
    let h = c.args.h in
    let t = c.args.t in
    omega (arith, c.requires, head-long h.nodes h.links h.events t.count t.complete t.mass)

pub put_field-third-requires : goal.put_field-third-requires
put_field-third-requires c =
    let h = c.args.h in
    let t = c.args.t in
    omega (arith, c.requires, head-long h.nodes h.links h.events t.count t.complete t.mass, c.put_field-second.auto.out, c.put_field-second.ensures.1)

pub put_line-requires : goal.put_line-requires
put_line-requires c =
    let h = c.args.h in
    let t = c.args.t in
    let long = head-long h.nodes h.links h.events t.count t.complete t.mass in
    omega (arith, c.requires, long, c.put_field-second.auto.out, c.put_field-second.ensures.1, c.put_field-third.auto.out, c.put_field-third.ensures.1)

pub returns : goal.returns
returns c =
    head-laid _ _ _ _ _ _ _ _ _ _ _ _ _ c.put_field-second.ensures c.put_field-third.ensures c.put_line.ensures
