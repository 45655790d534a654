-- `text::rows::put_rows` meets its contract: what is left, laid down from the position on, makes the lines of all pairs. Assumes nothing.
use mathlib.Core.List.{List}
use Prim.Native.Nat.{ℕ, ◌+◌, ◌-◌}
use Rattle.text.specs.Sums.{sum_line, row_text, rows_text}
use Rattle.text.proofs.RowLaws.{left-room, left-next, left_end, left-row, rows_end, pairs_start}
use Rattle.text.proofs.rows.put_rows.Goals.{In-loop-v}
use Rattle.text.proofs.rows.put_rows.Goals as goal

abbrev lines : In-loop-v → ℕ → ℕ → List ℕ
lines c = sum_line c.args.n c.args.rest c.args.sums.now

-- the next row, and those after it
abbrev next : In-loop-v → List ℕ
next c = row_text (lines c) c.loop-v.v (c.loop-v.v + 1) (c.args.n - (c.loop-v.v + 1))

abbrev later : In-loop-v → List ℕ
later c = rows_text (lines c) c.args.n (c.loop-v.v + 1) (c.args.n - (c.loop-v.v + 1))

pub loop-v-init : goal.loop-v-init
loop-v-init c =
    let a = c.args in pairs_start (sum_line a.n a.rest a.sums.now) a.n _ _

pub put_row-next-requires : goal.put_row-next-requires
put_row-next-requires c =
    record {
      listable = (c.requires.listable, c.loop-v-test.true);
      v_in_bounds = left-room _ _ _ _ _ (next (goal.at.put_row-next-requires c).In-loop-v) (later (goal.at.put_row-next-requires c).In-loop-v)
          (left-row (lines (goal.at.put_row-next-requires c).In-loop-v) c.args.n c.loop-v.v _ _ _ _ _ c.loop-v-test.true c.loop-v.invariant)
          c.requires.n_in_bounds;
    }

pub loop-v-preserved : goal.loop-v-preserved
loop-v-preserved c =
    let put = c.put_row-next in
    left-next _ _ _ _ _ (next (goal.at.loop-v-preserved c).In-loop-v) (later (goal.at.loop-v-preserved c).In-loop-v) _ _
    (left-row (lines (goal.at.loop-v-preserved c).In-loop-v) c.args.n c.loop-v.v _ _ _ _ _ c.loop-v-test.true c.loop-v.invariant)
    put.ensures
    put.auto.out

pub shape_of-out : goal.shape_of-out
shape_of-out c = c.loop-v.invariant.sized

pub returns : goal.returns
returns c =
    let a = c.args in
    left_end _ _ _ _ _ _ (rows_end (sum_line a.n a.rest a.sums.now) a.n c.loop-v.v c.loop-v-test.false) c.loop-v.invariant
