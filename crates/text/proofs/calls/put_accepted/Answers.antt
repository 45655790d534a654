-- `text::calls::put_accepted` meets its contract: the sums of the run give the listing of the plan. Assumes nothing.
use mathlib.Core.Path.{ap}
use native.Mathlib.Omega.{arith}
use Rattle.pairs.proofs.PairLaws.{pairs-most}
use Rattle.bounds.specs.declared.Totals.{Totals}
use Rattle.plan_lists.proofs.Accepted.{plan-held}
use Rattle.bounds.proofs.Zeros.{cleared}
use Rattle.bounds.proofs.Answers.{giving}
use Rattle.text.proofs.TextLaws.{sums-text, fits-as, laid_as}
use Rattle.text.proofs.calls.put_accepted.Goals as goal

pub walk_all-totals-requires : goal.walk_all-totals-requires
walk_all-totals-requires c =
    record {
      words_value = c.requires.words_value;
      cleared = cleared;
    }

pub put_plan_text-requires : goal.put_plan_text-requires
put_plan_text-requires c =
    let z = c.requires.words_value in
    let a = c.args in
    let few = (plan-held _ _ _ z).links-held.nodes-fit in
    record {
      bounds_fit = giving _ _ z _ _ _ _ _ c.walk_all-totals.ensures.summed (ap (λ (x : Totals). x.mass) c.walk_all-totals.ensures.value) few
          (omega (arith, pairs-most _ few, c.walk_all-totals.ensures.summed.sized))
          (omega (arith, pairs-most _ few, c.walk_all-totals.ensures.summed.sized));
      sums_in_bounds = fits-as _ _ a.out.now (sums-text a.h a.links.now a.words.now _ _ z c.walk_all-totals.ensures.value c.walk_all-totals.ensures.summed) c.requires.words_in_bounds;
    }

pub returns : goal.returns
returns c =
    let z = c.requires.words_value in
    let a = c.args in
    laid_as _ _ _ _ _ (sums-text a.h a.links.now a.words.now _ _ z c.walk_all-totals.ensures.value c.walk_all-totals.ensures.summed) c.put_plan_text.ensures
