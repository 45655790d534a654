-- `walk::ahead::descend` meets its contract: the entry taken off the stack is a number of dropped ends, or a branch to go down from.
-- Assumes nothing.
use Rattle.walk.proofs.Descents.{taken-ends, taken-mass, taken-run}
use Rattle.walk.proofs.ahead.descend.Goals as goal

pub returns-then-entry-gt128 : goal.returns-then-entry-gt128
returns-then-entry-gt128 c = rw c.at-entry.ensures (taken-run _ _ _ _ _ c.requires.3 c.requires.2 (rw c.at-entry.ensures at c.if-entry-gt128.true))

pub returns : goal.returns
returns c =
    let branch = rw c.at-entry.ensures at c.if-entry-gt128.false in
    rw (
      taken-ends c.args.count c.args.threshold c.args.events.now c.args.at c.args.stack.now c.requires.3 c.requires.2 branch,
      taken-mass c.args.count c.args.threshold c.args.events.now c.args.at c.args.stack.now c.requires.3 c.requires.2 branch,
    ) (rw c.at-entry.ensures at c.go_down.ensures)
