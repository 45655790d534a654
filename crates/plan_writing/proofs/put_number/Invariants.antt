-- `plan_writing::put_number` meets its contract: what is left, laid down from the next byte on, makes the whole. Assumes nothing.
use mathlib.Core.Path.{◌≡◌}
use Prim.Native.Nat.{◌-◌}
use lib.Seq.{sets}
use Rattle.plan.specs.Layout.{little}
use Rattle.plan_writing.proofs.put_number.Given as goal

abbrev pub invariant-loop-byte : goal.invariant-loop-byte
invariant-loop-byte l = sets l.byte-items l.byte-index (little (l.width - l.byte-index) l.rest) ≡ sets l.initial.byte-items 0 (little l.width l.x)
