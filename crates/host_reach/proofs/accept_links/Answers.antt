-- `host_reach::accept_links` meets its contract: the lists' tests, of which those of a plan without events are left out. Assumes nothing.
use mathlib.Core.Path.{◌∙◌}
use mathlib.Core.List.{[], ◌∷◌}
use Rattle.std.proofs.lemmas.Result.{on_ok_weaker}
use Rattle.host_reach.proofs.ReachLaws.{without-events, links-taken}
use Rattle.host_reach.proofs.accept_links.Goals as goal

pub returns-clause-number : goal.returns-clause-number
returns-clause-number c =
    let a = c.args in
    c.accept.ensures.number ∙ without-events a.nodes a.count a.links.now (0 ∷ [])

pub returns-clause-taken : goal.returns-clause-taken
returns-clause-taken c =
    let a = c.args in
    on_ok_weaker c.accept.result (λ z. links-taken a.nodes a.count a.links.now _ _ _ z) c.accept.ensures.taken
