-- `sheets::reader::read_core` meets its contract: the events of an accepted sheet are laid down. Assumes nothing.
use mathlib.Core.Path.{sym, ◌∙◌, ap}
use mathlib.Core.List.{map}
use lib.ListN.{drop}
use lib.Seq.{sets}
use Rattle.plan.specs.Lists.{event_words}
use Rattle.sheet_order.specs.Order.{ordered}
use Rattle.plan.proofs.FilledLaws.{filled-all}
use Rattle.sheets.specs.Sheet.{event_of_line, sheet_events}
use Rattle.sheets.specs.SheetFile.{lines_at, sheet_of}
use Rattle.sheets.specs.SheetCalls.{counts_of, read_sheet_refusal}
use Rattle.sheets.specs.declared.Counts.{Counts}
use Rattle.sheets.proofs.CheckLaws.{sheet-fits, accepted-lines, accepted-counts}
use Rattle.sheet_order.specs.Inserted.{probability}
use Rattle.sheets.proofs.ReadLaws.{read-accepted}
use Rattle.sheets.proofs.reader.read_core.Goals as goal

pub counts_of-counts-requires : goal.counts_of-counts-requires
counts_of-counts-requires c = sheet-fits _ (read-accepted _ _ (sym c.in_ok-read_test.ensures))

pub fill_lines-requires : goal.fill_lines-requires
unfolding counts_of
fill_lines-requires c =
    let e = read-accepted _ _ (sym c.in_ok-read_test.ensures) in rw c.counts_of-counts.ensures (record {
      nodes_bound = accepted-counts _ e;
      s_value = accepted-lines _ e;
    })

pub returns-clause-words : goal.returns-clause-words
unfolding counts_of sheet_events sheet_of
returns-clause-words c =
    let a = c.args in
    c.fill_lines.ensures
    ∙ ap (λ (x : Counts). sets a.words.now 0 (event_words (ordered probability (map event_of_line (lines_at x.lines (drop 8 a.s.now)))))) c.counts_of-counts.ensures
    ∙ filled-all (read_sheet_refusal a.room a.s.now) _ a.words.now (sym c.in_ok-read_test.ensures)
