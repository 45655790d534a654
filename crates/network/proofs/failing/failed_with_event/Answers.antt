-- `network::failing::failed_with_event` meets its contract: the words that are put beside what has failed are those of the event. Assumes nothing.
use mathlib.Core.Path.{refl, ap, ◌∙◌}
use Rattle.network.specs.Outage.{beside}
use Rattle.network.specs.Code.{outage}
use Rattle.network.proofs.Events.{named-words}
use Rattle.network.proofs.failing.failed_with_event.Goals as goal

pub returns : goal.returns
returns c = c.beside.ensures ∙ ap (beside (outage c.args.f)) (named-words c.args.events.now c.args.i _ _ _ c.requires refl refl refl)
