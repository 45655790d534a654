-- `record_reading::Reader::read` meets its contract: the words that were read give the records. Assumes nothing.
use mathlib.Core.Path.{refl, sym, ◌∙◌, ap}
use mathlib.Core.List.{List}
use Prim.Native.Nat.{ℕ}
use lib.ListN.{drop, replicate}
use lib.Seq.{sets}
use Rattle.record_lists.specs.Events.{records_of}
use Rattle.record_reading.proofs.ReadLaws.{count-bounds, read-list}
use Rattle.record_reading.proofs.Reader.read.Goals as goal

pub fill-requires : goal.fill-requires
fill-requires c = count-bounds _ _ _ _ c.in_ok-header.ensures.header (sym c.in_ok-header.ensures.number)

pub returns-clause-events : goal.returns-clause-events
returns-clause-events c =
    let a = c.args in
    let h = c.in_ok-header in
    c.fill.ensures
    ∙ ap (λ (ws : List ℕ). sets a.events.now 0 (records_of h.header.events ws)) h.ensures.words
    ∙ read-list _ _ (drop a.self.at a.self.src.now) h.header h.ensures.header (sym h.ensures.number) (replicate 512 0) a.events.now refl
