-- `thresholds_walk::next_path` meets its contract: the branch taken off the stack is gone down from. Assumes nothing.
use Rattle.thresholds_walk.proofs.Descents.{under, taken, path-taken}
use Rattle.thresholds_walk.proofs.next_path.Goals as goal

pub go_down-halt-requires-clause-sound_shared : goal.go_down-halt-requires-clause-sound_shared
go_down-halt-requires-clause-sound_shared c =
    rw c.at-branch.ensures (taken _ c.args.events.now _ _ c.requires.3 c.requires.2, under _ c.args.events.now _ _ c.requires.3 c.requires.2)

pub returns : goal.returns
returns c =
    rw c.at-branch.ensures
    (path-taken _ _ _ _ c.requires.3 c.requires.2 _ _ _ (rw c.at-branch.ensures at c.go_down-halt.ensures) _ c.straight-end.ensures)
