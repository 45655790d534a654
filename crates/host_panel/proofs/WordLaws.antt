-- The state after a go-on, by whether an end was reached.
-- Assumes nothing.
use mathlib.Core.Path.{◌≡◌, refl}
use mathlib.Core.List.{List}
use Prim.Native.Nat.{ℕ, zero, suc}
use lib.Seq.{sets}
use Rattle.walk_state.specs.declared.Walk.{Walk}
use Rattle.walk_words.specs.WalkWords.{walk_words}
use Rattle.host_panel.specs.WordCalls.{moved_words}

pub moved-some : (reached : ℕ) (walk : Walk) (state : List ℕ) → (reached ≡ 0 → ⊥)
    → sets state 0 (walk_words walk) ≡ moved_words reached walk state
moved-some zero walk state some = absurd (some refl)
moved-some (suc reached) walk state some = refl

pub moved_none : (reached : ℕ) (walk : Walk) (state : List ℕ) → reached ≡ 0 → state ≡ moved_words reached walk state
moved_none reached walk state e = rw e
