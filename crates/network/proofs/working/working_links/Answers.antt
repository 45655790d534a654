-- `network::working::working_links` meets its contract: the first links, less the failed ones, less those at a failed node. Assumes nothing.
use mathlib.Core.Path.{ap, ◌∙◌}
use mathlib.Core.Bool.{Bool, not, ◌&&◌}
use native.Mathlib.Omega.{arith}
use Rattle.sets.specs.Sets.{bit, joined}
use Rattle.network.specs.Table.{at_nodes}
use Rattle.network.specs.Code.{outage}
use Rattle.network.proofs.Words.{joined_by_lem}
use Rattle.network.proofs.NodeLinks.{working-are}
use Rattle.network.proofs.working.working_links.Goals as goal

pub returns : goal.returns
returns c = λ n bytes held made.
    let initial = c.first_links-all in
    let a = c.args in
    let low = c.less in
    let high = c.less-2 in
    working-are n bytes a.count a.table.now held made (outage a.failed) c.apart_from.result.low c.apart_from.result.high (omega arith) (omega arith)
    (λ i h.
    c.apart_from.ensures i h
    ∙ ap (λ (x : Bool). x && not (at_nodes a.table.now a.failed.nodes i))
    (joined_by_lem (λ x y. x && not y) initial.result.low initial.result.high a.failed.low a.failed.high low.result high.result
    (omega arith)
    (omega arith)
    (omega arith)
    low.ensures
    high.ensures
    i
    ∙ ap (λ (x : Bool). x && not (bit (joined a.failed.low a.failed.high) i)) (initial.ensures i)))
