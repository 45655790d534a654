-- `trials_network_vectors::held` meets its contract. Assumes nothing.
use Rattle.std.specs.Prelude.{Result, Ok, Err}
use Rattle.std.specs.Result.{is_ok}
use mathlib.Core.Path.{◌≡◌, refl, sym, ◌∙◌}
use mathlib.Core.Bool.{true, false≢true}
use Rattle.mass.specs.Refusal.{number_in}
use Rattle.mass.specs.declared.refusal.Refusal.{Refusal}
use Rattle.plan_layout.proofs.Theorems.{lists-denote}
use Rattle.plan_lists.proofs.Accepted.{plan-held}
use Rattle.trials_network_vectors.proofs.held.Goals as goal

passes-0 : {T : Type 0} (r : Result T Refusal) → is_ok r ≡ true → number_in r ≡ 0
passes-0 (Ok given) e = refl
passes-0 (Err refused) e = absurd (false≢true e)

pub returns : goal.returns
returns c = λ e. (plan-held _ _ _ (lists-denote _ (sym c.lists_refusal.ensures ∙ passes-0 c.lists_refusal.result (sym c.is_ok.ensures.value ∙ e)))).links-held
