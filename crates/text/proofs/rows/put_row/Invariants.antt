-- `text::rows::put_row` meets its contract: what is left, laid down from the position on, makes the whole row. Assumes nothing.
use mathlib.Core.Path.{◌≡◌}
use Prim.Native.Nat.{◌+◌, ◌-◌, ◌<◌}
use Rattle.pairs.specs.Pairs as pairs
use Rattle.text.specs.Sums.{sum_line, row_text}
use Rattle.text.proofs.RowLaws.{Left}
use Rattle.text.proofs.rows.put_row.Given as goal

abbrev pub invariant-loop-w : goal.invariant-loop-w
invariant-loop-w l =
    (l.v < l.w)
    × ((l.place ≡ pairs.place l.n l.v l.w)
    × Left l.initial.out l.at (row_text (sum_line l.n l.rest l.sums) l.v (l.v + 1) (l.n - (l.v + 1))) l.out l.next (row_text (sum_line l.n l.rest l.sums) l.v l.w (l.n - l.w)))
