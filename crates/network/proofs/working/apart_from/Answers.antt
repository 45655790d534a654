-- `network::working::apart_from` meets its contract. The loop's invariant: with the links at the nodes still to come taken out, the set is what it
-- is to be. Assumes nothing.
use mathlib.Core.Path.{refl}
use native.Mathlib.Omega.{arith}
use Rattle.sets.specs.Sets.{joined}
use Rattle.network.proofs.NodeLinks.{apart_next, apart-all}
use Rattle.network.proofs.working.apart_from.Goals as goal

pub loop-v-preserved : goal.loop-v-preserved
loop-v-preserved c =
    let loop = c.loop-v in
    let a = c.args in (
      omega arith,
      apart_next a.table.now (joined a.up.low a.up.high) a.nodes loop.apart.low loop.apart.high c.less.result c.less-in-loop-v.result
          _ _ _ _ _
          loop.invariant.0
          (c.fits-table _)
          (omega arith)
          c.in-Some.ensures.steps
          refl
          refl
          c.less.ensures
          c.less-in-loop-v.ensures
          loop.invariant.1,
    )

pub returns : goal.returns
returns c =
    let loop = c.loop-v in
    let a = c.args in
    apart-all a.table.now (joined a.up.low a.up.high) a.nodes (joined loop.apart.low loop.apart.high) loop.v-iterator.left c.in-None.ensures.steps.0
    loop.invariant.1
