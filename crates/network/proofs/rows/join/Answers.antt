-- `network::rows::join` meets its contract: each of the two rows gets one element. Assumes nothing.
use mathlib.Core.Path.{ap, ◌∙◌}
use mathlib.Core.Bool.{Bool, ◌||◌}
use lib.ListN.{get_or, set}
use Rattle.sets.specs.Sets.{bit}
use Rattle.network.proofs.RowSets.{both-put}
use Rattle.network.proofs.rows.join.Goals as goal

pub returns-clause-rows : goal.returns-clause-rows
returns-clause-rows c =
    let a = c.args in
    let initial = set a.rows.now a.a c.union.result in
    both-put a.rows.now a.a a.b c.union.result c.union-2.result
    c.requires.rows_len
    c.requires.a_bound.0
    c.requires.a_bound.1
    (λ j. c.union.ensures j ∙ ap (λ (x : Bool). bit (get_or a.rows.now a.a 0) j || x) (c.only.ensures j))
    (λ j. c.union-2.ensures j ∙ ap (λ (x : Bool). bit (get_or initial a.b 0) j || x) (c.only-2.ensures j))
