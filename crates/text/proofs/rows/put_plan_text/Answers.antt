-- `text::rows::put_plan_text` meets its contract: the rows are laid down where the first line ends. Assumes nothing.
use native.Mathlib.Omega.{arith}
use Rattle.text.proofs.TextLaws.{sums-long, sums-laid, listable}
use Rattle.text.proofs.rows.put_plan_text.Goals as goal

pub put_head-at-requires : goal.put_head-at-requires
put_head-at-requires c =
    omega (arith, c.requires.sums_in_bounds, sums-long c.args.h c.args.t c.args.sums.now)

pub put_rows-requires : goal.put_rows-requires
put_rows-requires c =
    record {
      listable = listable _ _ _ c.requires.bounds_fit;
      n_in_bounds = omega (arith, c.requires.sums_in_bounds, sums-long c.args.h c.args.t c.args.sums.now, c.put_head-at.auto.out, c.put_head-at.ensures.1);
    }

pub returns : goal.returns
returns c =
    sums-laid _ _ _ _ _ _ _ _ c.put_head-at.ensures c.put_rows.ensures
