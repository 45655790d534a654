-- `panel::calls::begin` meets its contract. Assumes nothing.
use borrow.Author.Rules.{rules}
use Rattle.plan_lists.specs.Taken.{Taken}
use Rattle.panel.proofs.Beginning.{is-root, begun}
use Rattle.panel.proofs.calls.begin.Goals as goal

pub returns-clause-root : goal.returns-clause-root
returns-clause-root c =
    let a = c.args in
    let taken = c.accept.ensures in
    is-root a.h a.links.now a.events.now _ _ _ _ c.begin-at.ensures taken.bytes taken.words

pub returns-clause-begun : goal.returns-clause-begun
returns-clause-begun c =
    let a = c.args in
    let taken : Taken a.h a.links.now a.events.now c.accept.new.bytes c.accept.new.words = search rules in
    begun a.h a.links.now a.events.now _ _ _ _ c.begin-at.ensures taken
