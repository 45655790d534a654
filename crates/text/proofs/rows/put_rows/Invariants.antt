-- `text::rows::put_rows` meets its contract: what is left, laid down from the position on, makes the lines of all pairs. Assumes nothing.
use Prim.Native.Nat.{◌-◌}
use Rattle.text.specs.Listing.{pairs_text}
use Rattle.text.specs.Sums.{sum_line, rows_text}
use Rattle.text.proofs.RowLaws.{Left}
use Rattle.text.proofs.rows.put_rows.Given as goal

abbrev pub invariant-loop-v : goal.invariant-loop-v
invariant-loop-v l =
    Left l.initial.out l.at (pairs_text (sum_line l.n l.rest l.sums) l.n) l.out l.next (rows_text (sum_line l.n l.rest l.sums) l.n l.v (l.n - l.v))
