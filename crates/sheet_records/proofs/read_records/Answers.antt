-- `sheet_records::read_records` meets its contract: the words that were read give the records. Assumes nothing.
use mathlib.Core.Path.{refl, sym, ◌∙◌, ap}
use mathlib.Core.List.{List}
use Prim.Native.Nat.{ℕ}
use lib.ListN.{replicate}
use lib.Seq.{sets}
use Rattle.record_lists.specs.Events.{records_of}
use Rattle.sheet_records.proofs.SheetRecordsLaws.{count-bounds, read-list}
use Rattle.sheet_records.proofs.read_records.Goals as goal

pub fill-requires : goal.fill-requires
fill-requires c = count-bounds _ _ _ c.in_ok-counts.ensures.counts (sym c.in_ok-counts.ensures.number)

pub returns-clause-events : goal.returns-clause-events
returns-clause-events c =
    let r = c.in_ok-counts in
    c.fill.ensures
    ∙ ap (λ (ws : List ℕ). sets c.args.events.now 0 (records_of r.counts.lines ws)) r.ensures.words
    ∙ read-list _ _ r.counts r.ensures.counts (sym r.ensures.number) (replicate 512 0) c.args.events.now refl
