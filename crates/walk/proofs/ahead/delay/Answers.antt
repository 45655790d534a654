-- `walk::ahead::delay` meets its contract: no dropped end is laid down, or an entry that stands for so many. Where none is laid down, the check
-- finds the proof. Assumes nothing.
use native.Mathlib.Omega.{arith}
use Rattle.walk.proofs.Descents.{delayed-some}
use Rattle.walk.proofs.ahead.delay.Goals as goal

pub returns : goal.returns
returns c = delayed-some _ _ _ _ (omega arith) (c.requires.1 (omega arith)) (rw c.words.ensures at c.put.ensures)
