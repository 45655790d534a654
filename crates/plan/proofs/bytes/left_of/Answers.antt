-- `plan::bytes::left_of` meets its contract. Assumes nothing.
use native.Mathlib.Omega.{arith}
use lib.ListN.{length-drop}
use Rattle.plan.proofs.bytes.left_of.Goals as goal

pub returns-then-at-s : goal.returns-then-at-s
returns-then-at-s c = rw length-drop

pub returns : goal.returns
returns c = rw length-drop (omega arith)
