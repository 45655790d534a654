-- `panel::looks::look_pair` meets its contract: the pair's test, then what a look shows of it. Assumes nothing.
use Rattle.std.proofs.lemmas.Result.{err_from_is_err_and}
use mathlib.Core.Path.{◌≡◌, ◌∙◌}
use native.Mathlib.Omega.{arith}
use Rattle.panel.specs.Calls.{look_pair_of}
use Rattle.panel.proofs.Shown.{shown-same, nodes-same, tested-same, pair-looked}
use Rattle.panel.proofs.looks.look_pair.Goals.{After-bounds_from}
use Rattle.panel.proofs.looks.look_pair.Goals as goal

-- what is shown comes from the walk's own numbers
shown : (c : After-bounds_from) → c.bounds_from.result ≡ look_pair_of c.args.w c.args.v c.args.x
shown c = let w = c.args.w in c.bounds_from.ensures ∙ shown-same w.header.nodes w.mass _ _ c.sum_of.ensures

pub returns-in_err-pair_test-clause-shown : goal.returns-in_err-pair_test-clause-shown
returns-in_err-pair_test-clause-shown c =
    let p = err_from_is_err_and c.from_residual.result c.from_residual.ensures.1 in
    rw (p.1, p.2) (λ q n at. (c.in_err-pair_test.ensures.number ∙ tested-same q n c.args.w at c.args.v c.args.x, tt))

pub returns-clause-bounds : goal.returns-clause-bounds
returns-clause-bounds c = shown (goal.at.returns-clause-bounds c).After-bounds_from

pub returns-clause-shown : goal.returns-clause-shown
returns-clause-shown c =
    let a = c.args in
    let inside = c.in_ok-pair_test.ensures.inside in
    λ p n at. (
      c.in_ok-pair_test.ensures.number ∙ tested-same p n a.w at a.v a.x,
      shown (goal.at.returns-clause-shown c).After-bounds_from
          ∙ pair-looked p n a.w at a.v a.x inside.0 (omega (arith, inside.1, nodes-same p n a.w at)),
    )
