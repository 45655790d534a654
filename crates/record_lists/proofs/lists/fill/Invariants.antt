-- `record_lists::lists::fill` meets its contract: the loop has laid down the records before `i`. Assumes nothing.
use mathlib.Core.Path.{◌≡◌}
use lib.Seq.{sets}
use Rattle.record_lists.specs.Events.{records_of}
use Rattle.record_lists.proofs.lists.fill.Given as goal

abbrev pub invariant-loop-i : goal.invariant-loop-i
invariant-loop-i l = l.events ≡ sets l.initial.events 0 (records_of l.i l.words)
