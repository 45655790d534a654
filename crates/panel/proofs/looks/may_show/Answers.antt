-- `panel::looks::may_show` meets its contract: at each `return` the tests that led there decide the answer. Assumes nothing.
use native.Mathlib.Omega.{arith}
use Rattle.panel.proofs.Shown.{nodes-fail, mass-fails, sum-decides}
use Rattle.panel.proofs.looks.may_show.Goals as goal

pub returns-then-nodes-gt64 : goal.returns-then-nodes-gt64
returns-then-nodes-gt64 c = nodes-fail _ _ _ (omega arith)

pub returns-then-mass : goal.returns-then-mass
returns-then-mass c = mass-fails _ _ _ (omega arith) (omega arith)

pub returns : goal.returns
returns c = sum-decides _ _ _ (omega arith) (omega arith)
