-- `sheets::reader::fill_lines` meets its contract. The loop's invariant: the lines from `at` on are accepted; the first `done` events are in order, and with
-- the lines from `at` on placed among them they are all of them. Assumes nothing.
use mathlib.Core.Path.{◌≡◌}
use mathlib.Core.List.{List, map}
use Prim.Native.Nat.{◌-◌}
use lib.ListN.{length, drop}
use lib.Seq.{sets}
use Rattle.plan.specs.Plan.{Event}
use Rattle.plan.specs.Lists.{event_words}
use Rattle.sheet_order.specs.Order.{ordered_with, ordered}
use Rattle.sheets.specs.Sheet.{event_of_line}
use Rattle.sheets.specs.SheetFile.{lines_refusal, lines_at}
use Rattle.sheet_order.specs.Inserted.{probability}
use Rattle.sheets.proofs.reader.fill_lines.Given as goal

abbrev pub invariant-loop-done : goal.invariant-loop-done
invariant-loop-done l =
    (lines_refusal l.nodes l.links (l.count - l.done) (drop l.at l.s) ≡ 0)
    × (es : List Event)
    × (length es ≡ l.done)
    × (l.words ≡ sets l.initial.words 0 (event_words es))
    × (ordered_with probability es (map event_of_line (lines_at (l.count - l.done) (drop l.at l.s))) ≡ ordered probability (map event_of_line (lines_at l.count (drop l.start l.s))))
