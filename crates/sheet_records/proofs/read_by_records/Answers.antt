-- `sheet_records::read_by_records` meets its contract: the words of the records that were read are handed over. Assumes nothing.
use mathlib.Core.Path.{refl, sym, ◌∙◌}
use lib.ListN.{replicate}
use Rattle.mass.proofs.RefusalLaws.{hands-on}
use Rattle.sheet_records.proofs.SheetRecordsLaws.{count-bounds, room-decides, handed-over}
use Rattle.sheet_records.proofs.read_by_records.Goals as goal

pub hand_over-requires : goal.hand_over-requires
hand_over-requires c = (count-bounds 128 c.args.s.now _ c.in_ok-counts.ensures.counts (sym c.in_ok-counts.ensures.number)).0

pub returns-in_err-hand_over-clause-number : goal.returns-in_err-hand_over-clause-number
returns-in_err-hand_over-clause-number c =
    hands-on _ _ c.from_residual-in_err-hand_over.ensures
    (c.in_err-hand_over.ensures.number ∙ room-decides _ c.args.s.now _ c.in_ok-counts.ensures.counts c.in_ok-counts.ensures.number)

pub returns-in_err-hand_over-clause-events : goal.returns-in_err-hand_over-clause-events
returns-in_err-hand_over-clause-events c =
    let r = c.in_ok-counts.ensures in
    handed-over _ c.args.s.now _ r.counts r.number _ (replicate 512 0) _ c.args.events.now _ refl r.events c.flatten.ensures c.in_err-hand_over.ensures.events

pub returns-clause-number : goal.returns-clause-number
returns-clause-number c =
    c.in_ok-hand_over.ensures.number ∙ room-decides _ c.args.s.now _ c.in_ok-counts.ensures.counts c.in_ok-counts.ensures.number

pub returns-clause-events : goal.returns-clause-events
returns-clause-events c =
    let r = c.in_ok-counts.ensures in
    handed-over _ c.args.s.now _ r.counts r.number _ (replicate 512 0) _ c.args.events.now _ refl r.events c.flatten.ensures c.in_ok-hand_over.ensures.events
