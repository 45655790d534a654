-- `record_lists::lists::fill` meets its contract. Assumes nothing.
use mathlib.Core.Path.{refl, ap, ◌∙◌}
use lib.ListN.{set}
use Rattle.std.proofs.Common.{List}
use Rattle.record_lists.specs.Events.{records_of}
use Rattle.record_lists.specs.declared.Event.{Event}
use Rattle.record_lists.proofs.EventLaws.{fill_more}
use Rattle.record_lists.proofs.lists.fill.Goals as goal

pub loop-i-init : goal.loop-i-init
unfolding records_of
loop-i-init c = refl

pub loop-i-preserved : goal.loop-i-preserved
loop-i-preserved c =
    ap (λ (es : List Event). set es c.loop-i.i c.event_at.result) c.loop-i.invariant
    ∙ fill_more c.loop-i.i c.args.words.now c.args.events.now c.event_at.result c.event_at.ensures
