-- `record_lists::lists::flatten` meets its contract: the loop has laid down the words of the records before `i`. Assumes nothing.
use mathlib.Core.Path.{◌≡◌}
use lib.ListN.{take}
use lib.Seq.{sets}
use Rattle.record_lists.specs.Events.{words_of}
use Rattle.record_lists.proofs.lists.flatten.Given as goal

abbrev pub invariant-loop-i : goal.invariant-loop-i
invariant-loop-i l = l.words ≡ sets l.initial.words 0 (words_of (take l.i l.events))
