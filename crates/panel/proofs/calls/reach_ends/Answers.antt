-- `panel::calls::reach_ends` meets its contract. Assumes nothing.
use borrow.Author.Rules.{rules}
use mathlib.Core.Path.{◌≡◌}
use lib.ListN.{length}
use Rattle.walk_state.proofs.SoundLaws.{sound-is}
use Rattle.panel.proofs.GoingOn.{held, ready, walked}
use Rattle.panel.proofs.calls.reach_ends.Goals as goal

pub links_at-table-requires : goal.links_at-table-requires
links_at-table-requires c = (held c.args.walk.now (sound-is _ c.requires.0)).links-held

pub go_on-r-requires-clause-ready : goal.go_on-r-requires-clause-ready
go_on-r-requires-clause-ready c =
    let stack-size : length c.args.walk.now.stack ≡ 512 = search rules in
    let sums-size : length c.args.walk.now.sums ≡ 2016 = search rules in
    ready c.args.walk.now (sound-is _ c.requires.0) stack-size c.args.allowed c.requires.1 sums-size

pub returns-clause-walked : goal.returns-clause-walked
returns-clause-walked c = walked c.args.walk.now c.args.allowed _ _ _ c.go_on-r.ensures c.requires.1
