-- `walk_words::parts::widen` meets its contract: the loop has laid down the bytes before `i`. Assumes nothing.
use mathlib.Core.Path.{◌≡◌}
use lib.ListN.{take}
use lib.Seq.{sets}
use Rattle.walk_words.proofs.parts.widen.Given as goal

abbrev pub invariant-loop-i : goal.invariant-loop-i
invariant-loop-i l = l.to ≡ sets l.initial.to l.at (take l.i l.from)
