-- `panel::looks::bounds_from` meets its contract. Assumes nothing.
use mathlib.Core.Path.{sym, ◌∙◌}
use native.Mathlib.Omega.{arith}
use Rattle.panel.proofs.Shown.{may-is, shown-true, shown-false}
use Rattle.panel.proofs.looks.bounds_from.Goals as goal

pub returns-then-not-may_show : goal.returns-then-not-may_show
returns-then-not-may_show c = sym (shown-false _ _ _ (sym c.may_show.ensures ∙ c.if-not-may_show.true))

pub overflow_sub-result : goal.overflow_sub-result
overflow_sub-result c =
    let fits = may-is _ _ _ (sym c.may_show.ensures ∙ c.if-not-may_show.false) in
    omega (arith, fits.0, fits.1)

pub overflow_add-result : goal.overflow_add-result
overflow_add-result c =
    let fits = may-is _ _ _ (sym c.may_show.ensures ∙ c.if-not-may_show.false) in
    record { fits = omega (arith, fits.0, fits.1) }

pub returns : goal.returns
returns c = sym (shown-true _ _ _ (sym c.may_show.ensures ∙ c.if-not-may_show.false))
