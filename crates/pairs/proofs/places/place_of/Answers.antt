-- `pairs::places::place_of` meets its contract. Assumes nothing.
use native.Mathlib.Omega.{arith}
use Rattle.pairs.proofs.PairLaws.{at-place-is, inside}
use Rattle.pairs.proofs.places.place_of.Goals as goal

pub overflow_add-result-2 : goal.overflow_add-result-2
overflow_add-result-2 c =
    let pre = c.requires in
    omega (arith, inside _ c.args.v c.args.w _ c.start_of.ensures pre.0 pre.1 pre.2)

pub returns : goal.returns
returns c =
    let pre = c.requires in
    let a = c.args in
    (at-place-is a.n a.v a.w _ c.start_of.ensures, inside a.n a.v a.w _ c.start_of.ensures pre.0 pre.1 pre.2)
