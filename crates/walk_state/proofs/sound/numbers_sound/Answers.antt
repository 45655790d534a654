-- `walk_state::sound::numbers_sound` meets its contract: at each `return` the tests that led there decide the answer. Assumes nothing.
use native.Mathlib.Omega.{arith}
use Rattle.walk_state.proofs.SoundLaws.{more-examined, past-cap, no-entry, last-number}
use Rattle.walk_state.proofs.sound.numbers_sound.Goals as goal

pub returns-then-reached-count : goal.returns-then-reached-count
returns-then-reached-count c = more-examined _ _ _ _ (omega arith)

pub returns-then-cap-reached : goal.returns-then-cap-reached
returns-then-cap-reached c = past-cap _ _ _ _ (omega arith) (omega arith)

pub returns-then-at-ne0 : goal.returns-then-at-ne0
returns-then-at-ne0 c = no-entry _ _ _ _ (omega arith) (omega arith) c.if-at-ne0.true

pub returns : goal.returns
returns c = last-number _ _ _ _ (omega arith) (omega arith) c.if-at-ne0.false
