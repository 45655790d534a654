-- `host_thresholds::give_places` meets its contract. The loop's invariant: the words of the first i places are laid down. Assumes nothing.
use mathlib.Core.Path.{◌≡◌}
use lib.ListN.{take}
use lib.Seq.{sets}
use Rattle.host_thresholds.specs.ThresholdAnswers.{in_turn}
use Rattle.host_thresholds.proofs.give_places.Given as goal

abbrev pub invariant-loop-i : goal.invariant-loop-i
invariant-loop-i l = l.res ≡ sets l.initial.res 0 (in_turn (take l.i l.count) (take l.i l.complete) (take l.i l.mass))
