-- `trials_vectors::data::full_events` meets its contract: the first `i` events have their probability, and every set is full. Assumes nothing.
use mathlib.Core.Path.{◌≡◌}
use Prim.Native.Nat.{ℕ, ◌<◌, ◌*◌, ◌%◌}
use lib.ListN.{length, get_or}
use Rattle.trials_vectors.proofs.data.full_events.Given as goal

abbrev pub invariant-loop-i : goal.invariant-loop-i
invariant-loop-i l =
    (length l.words ≡ 512)
    × ((k : ℕ) → k < l.i → get_or l.words (4 * k) 0 ≡ 1000000000)
    × ((j : ℕ) → j < 512 → (j % 4 ≡ 0 → ⊥) → get_or l.words j 0 ≡ 18446744073709551615)
