-- `topology::rounds::rows_of` meets its contract. The loop's invariant: all rows of the set are gathered but those still to come. Assumes nothing.
use Rattle.topology.proofs.Gather.{gathered_none, gathered_next, gathered-all}
use Rattle.topology.proofs.rounds.rows_of.Goals as goal

pub loop-v-init : goal.loop-v-init
loop-v-init c = gathered_none _ _ _ (cc)

pub loop-v-preserved : goal.loop-v-preserved
loop-v-preserved c =
    gathered_next c.args.rows.now c.args.set c.loop-v.all _ c.union-all.result _ _ c.in-Some.ensures.steps c.union-all.ensures c.loop-v.invariant

pub returns : goal.returns
returns c =
    gathered-all c.args.rows.now c.args.set c.loop-v.all c.loop-v.v-iterator.left c.in-None.ensures.steps.0 c.loop-v.invariant
