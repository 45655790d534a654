-- `topology_list::entries::put` meets its contract: four stores are four words laid down. Assumes nothing.
use native.Mathlib.Numerals.{add-one, add-two, add-three}
use Prim.Native.Nat.{◌*◌}
use native.Mathlib.Omega.{arith}
use lib.ListN.{length-set}
use Rattle.topology_list.proofs.entries.put.Goals as goal

pub bounds-list-at-2 : goal.bounds-list-at-2
bounds-list-at-2 c = simp length-set (omega arith)

pub bounds-list-at-3 : goal.bounds-list-at-3
bounds-list-at-3 c = simp length-set (omega arith)

pub bounds-list-at-4 : goal.bounds-list-at-4
bounds-list-at-4 c = simp length-set (omega arith)

pub shape_of-list : goal.shape_of-list
shape_of-list c = simp length-set

pub returns : goal.returns
returns c = rw (add-one (4 * c.args.i), add-two (4 * c.args.i), add-three (4 * c.args.i))
