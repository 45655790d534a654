-- `network::table::links_at` meets its contract. The loop's invariant: the promise itself, of the links below i. Assumes nothing.
use mathlib.Core.Path.{◌≡◌}
use lib.ListN.{length}
use Rattle.network.specs.Table.{LinksAt}
use Rattle.network.proofs.table.links_at.Given as goal

abbrev pub invariant-loop-i : goal.invariant-loop-i
invariant-loop-i l = (length l.table ≡ 128) × LinksAt l.links l.i l.table
