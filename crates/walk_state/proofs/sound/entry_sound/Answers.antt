-- `walk_state::sound::entry_sound` meets its contract: at each `return` the tests that led there decide the answer. Assumes nothing.
use mathlib.Core.Path.{sym, ◌∙◌}
use native.Mathlib.Omega.{arith}
use Rattle.walk_state.proofs.EntryLaws.{entry-run, too-deep, too-heavy, too_wide, last-test}
use Rattle.walk_state.proofs.sound.entry_sound.Goals as goal

pub returns-then-depth-gt128 : goal.returns-then-depth-gt128
returns-then-depth-gt128 c = sym (entry-run _ _ _ _ _ _ _ (omega arith))

pub returns-then-depth-count : goal.returns-then-depth-count
returns-then-depth-count c = too-deep _ _ _ _ _ _ _ (omega arith) (omega arith)

pub returns-then-mass-room : goal.returns-then-mass-room
returns-then-mass-room c = too-heavy _ _ _ _ _ _ _ (omega arith) (omega arith) (omega arith)

pub returns-then-reaches_wide : goal.returns-then-reaches_wide
returns-then-reaches_wide c = too_wide _ _ _ _ _ _ _ (omega arith) (omega arith) (omega arith) (omega arith) (sym c.reaches_wide.ensures ∙ c.if-reaches_wide.true)

pub returns : goal.returns
returns c = last-test _ _ _ _ _ _ _ (omega arith) (omega arith) (omega arith) (omega arith) (sym c.reaches_wide.ensures ∙ c.if-reaches_wide.false)
