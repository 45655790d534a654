-- `walk_state::sound::entries_sound` meets its contract: the entries so far are sound, and their mass is off the room. Assumes nothing.
use mathlib.Core.Path.{◌≡◌}
use Prim.Native.Nat.{◌*◌}
use lib.ListN.{drop}
use Rattle.walk_state.specs.Sound.{sound_entries}
use Rattle.walk_state.proofs.sound.entries_sound.Given as goal

abbrev pub invariant-loop-i : goal.invariant-loop-i
invariant-loop-i l =
    sound_entries l.count l.room (drop l.at l.stack) ≡ sound_entries l.count l.left (drop (4 * l.i) l.stack)
