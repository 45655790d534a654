-- `walk::ahead::straight` meets its contract. The loop's invariant: the path from here stops where the path from the start does, and the mass
-- is in two parts. Assumes nothing.
use mathlib.Core.Path.{refl}
use native.Mathlib.Omega.{arith}
use Rattle.walk.proofs.Descents.{probable, path-begun, path-stopped, path-ended, path-further}
use Rattle.walk.proofs.ahead.straight.Goals as goal

pub returns-then-mass-threshold : goal.returns-then-mass-threshold
returns-then-mass-threshold c =
    path-stopped _ _ c.requires.3 _ _ _ _ _ (path-begun _ _ _ _ _ _ refl c.requires.1 c.requires.2) c.if-mass-threshold.true

pub returns-then-m-threshold : goal.returns-then-m-threshold
returns-then-m-threshold c = path-stopped _ _ c.requires.3 _ _ _ _ _ c.loop-d.invariant.0 c.if-m-threshold.true

pub works_on-m-requires : goal.works_on-m-requires
works_on-m-requires c = (omega arith, c.loop-d.invariant.1, probable _ _ c.requires.3 _ c.loop-d-test.true)

pub loop-d-preserved : goal.loop-d-preserved
loop-d-preserved c =
    let p = c.works_on-m.ensures in
    let on = c.loop-d.invariant.0 in (
      path-further _ _ c.requires.3 _ _ _ _ _ on c.if-m-threshold.false c.loop-d-test.true _ p.units,
      record { units = refl; parts = p.parts; small = p.small; light = p.light },
    )

pub returns : goal.returns
returns c = path-ended _ _ c.requires.3 _ _ _ _ _ c.loop-d.invariant.0 c.loop-d-test.false
