-- `walk::with_event` meets its contract: the new event's bit lies above all others, in the low word or in the high one. Assumes nothing.
use Rattle.walk.proofs.Words.{high_fits, high-joined}
use Rattle.walk.proofs.with_event.Goals as goal

pub overflow_add-result-2 : goal.overflow_add-result-2
overflow_add-result-2 c = record { fits = high_fits _ _ _ c.requires.2 c.if-event-lt64.false c.requires.1 }

pub returns : goal.returns
returns c = high-joined _ _ _ c.requires.2 c.if-event-lt64.false c.requires.1
