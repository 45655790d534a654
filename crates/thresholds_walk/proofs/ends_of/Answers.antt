-- `thresholds_walk::ends_of` meets its contract: the four cases of a path. Assumes nothing.
use native.Mathlib.Omega.{arith}
use Rattle.thresholds_walk.proofs.Counting.{none_of, one_of, all_of, own_of}
use Rattle.thresholds_walk.proofs.ends_of.Goals as goal

pub returns-then-path-threshold : goal.returns-then-path-threshold
returns-then-path-threshold c =
    let p = c.requires in
    (none_of _ _ _ _ p.1 p.2 _ p.3 c.if-path-threshold.true, λ z. omega (arith, p.3.stops.lighter, p.3.lighter))

pub returns-then-path-threshold-2 : goal.returns-then-path-threshold-2
returns-then-path-threshold-2 c =
    let p = c.requires in
    (one_of _ _ _ _ p.1 p.2 _ p.3 c.if-path-threshold.false c.if-path-threshold-2.true, λ z. absurd (omega arith))

pub returns-then-threshold-path : goal.returns-then-threshold-path
returns-then-threshold-path c =
    let p = c.requires in
    (all_of _ _ _ _ p.1 p.2 _ p.3 c.if-path-threshold-2.false c.if-threshold-path.true, λ z. absurd (omega arith))

pub returns : goal.returns
returns c =
    let p = c.requires in (
      own_of _ _ _ _ p.1 p.2 _ p.3 c.if-path-threshold-2.false c.if-threshold-path.false _ c.straight-end.ensures,
      λ z. absurd (omega arith),
    )
