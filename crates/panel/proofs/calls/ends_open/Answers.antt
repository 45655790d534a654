-- `panel::calls::ends_open` meets its contract. Assumes nothing.
use mathlib.Core.Path.{sym, ◌∙◌}
use Rattle.walk_state.proofs.SoundLaws.{sound-is}
use Rattle.panel.proofs.Wanted.{open-unsound, open-ended, open-sound}
use Rattle.panel.proofs.calls.ends_open.Goals as goal

pub returns-then-not-is_sound-clause-allowed : goal.returns-then-not-is_sound-clause-allowed
returns-then-not-is_sound-clause-allowed c = sym (open-unsound _ (sym c.is_sound.ensures ∙ c.if-not-is_sound.true))

pub returns-then-w-ge512-clause-allowed : goal.returns-then-w-ge512-clause-allowed
returns-then-w-ge512-clause-allowed c = sym (open-ended _ c.if-w-ge512.true (sym c.is_sound.ensures ∙ c.if-not-is_sound.false))

pub overflow_sub-result : goal.overflow_sub-result
overflow_sub-result c = (sound-is _ (sym c.is_sound.ensures ∙ c.if-not-is_sound.false)).under-cap

pub returns-clause-allowed : goal.returns-clause-allowed
returns-clause-allowed c = sym (open-sound _ c.if-w-ge512.false (sym c.is_sound.ensures ∙ c.if-not-is_sound.false))
