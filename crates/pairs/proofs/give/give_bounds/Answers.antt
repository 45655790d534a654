-- `pairs::give::give_bounds` meets its contract. Assumes nothing.
use native.Mathlib.Omega.{arith}
use Rattle.pairs.proofs.PairLaws.{pairs-most}
use Rattle.pairs.proofs.give.give_bounds.Goals as goal

pub copy_first-requires : goal.copy_first-requires
copy_first-requires c =
    let g = c.requires in
    let e = c.pair_count-pairs.ensures in
    (omega (arith, e, g.sized, pairs-most _ g.few), omega (arith, e, g.lower-room))

pub copy_raised-requires-clause-start_in_bounds : goal.copy_raised-requires-clause-start_in_bounds
copy_raised-requires-clause-start_in_bounds c =
    let g = c.requires in
    let e = c.pair_count-pairs.ensures in
    (omega (arith, e, g.sized, pairs-most _ g.few), omega (arith, e, g.upper-room))
