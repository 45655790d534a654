-- `network::table::links_at` meets its contract. The loop's invariant: the promise itself, of the links below i. Assumes nothing.
use mathlib.Core.Path.{refl}
use Rattle.network.proofs.NodeLinks.{table_none, table-next}
use Rattle.network.proofs.table.links_at.Goals as goal

pub loop-i-init : goal.loop-i-init
loop-i-init c = (refl, table_none c.args.links.now)

pub loop-i-preserved : goal.loop-i-preserved
loop-i-preserved c = (
  c.put_at-in-loop-i.ensures.size,
  table-next c.args.links.now c.loop-i.i _ _ _ _ _ c.ends-low.ensures.is c.put_at.ensures.put c.put_at-in-loop-i.ensures.put c.loop-i.invariant.1,
)
