-- `text::rows::put_row` meets its contract: what is left, laid down from the position on, makes the whole row. Assumes nothing.
use mathlib.Core.List.{List, ◌++◌}
use Prim.Native.Nat.{ℕ, ◌+◌, ◌-◌, ◌<◌}
use native.Mathlib.Omega.{arith}
use Rattle.text.specs.Sums.{sum_line, row_text}
use Rattle.text.proofs.RowLaws.{Left, left-start, left-room, left-next, left_end, left-turn, row-end, line_at, place-first, place-next, place-fits}
use Rattle.text.proofs.rows.put_row.Goals.{In-loop-w}
use Rattle.text.proofs.rows.put_row.Goals as goal

-- the entry is there
inside : (c : In-loop-w) → c.loop-w.place < 2016
inside c =
    let inv = c.loop-w.invariant in
    place-fits c.args.n c.args.v c.loop-w.w _ c.requires.listable.0.few inv.0 c.loop-w-test.true inv.1.0

-- the line of the next pair, and those after it
abbrev next : In-loop-w → List ℕ
next c = line_at c.args.rest c.args.sums.now c.args.v c.loop-w.w c.loop-w.place

abbrev later : In-loop-w → List ℕ
later c =
    let a = c.args in
    row_text (sum_line a.n a.rest a.sums.now) a.v (c.loop-w.w + 1) (a.n - (c.loop-w.w + 1))

turned : (c : In-loop-w)
    → Left c.args.out.now c.args.at
    (row_text (sum_line c.args.n c.args.rest c.args.sums.now) c.args.v (c.args.v + 1) (c.args.n - (c.args.v + 1)))
    c.loop-w.out
    c.loop-w.next
    (next c ++ later c)
turned c =
    let a = c.args in
    let inv = c.loop-w.invariant in
    left-turn a.n a.rest a.sums.now a.v c.loop-w.w c.loop-w.place _ _ _ _ _ inv.1.0 c.loop-w-test.true inv.1.1

pub start_of-place-requires : goal.start_of-place-requires
start_of-place-requires c = (c.requires.listable.0.few, omega (arith, c.requires.listable.1))

pub overflow_step-w : goal.overflow_step-w
overflow_step-w c = omega (arith, c.requires.listable.1, c.requires.listable.0.few)

pub loop-w-init : goal.loop-w-init
loop-w-init c = (
  omega arith,
  (place-first c.args.n c.args.v _ c.start_of-place.ensures, left-start _ _ _),
)

pub offset_bounds-sums-place : goal.offset_bounds-sums-place
offset_bounds-sums-place c = omega (arith, inside (goal.at.offset_bounds-sums-place c).In-loop-w)

pub bounds-sums-place : goal.bounds-sums-place
bounds-sums-place c = omega (arith, inside (goal.at.bounds-sums-place c).In-loop-w)

pub overflow_add-rest : goal.overflow_add-rest
overflow_add-rest c =
    omega (arith, c.requires.listable.0.fits c.loop-w.place)

pub put_line-next-requires : goal.put_line-next-requires
put_line-next-requires c =
    left-room _ _ _ _ _ (next (goal.at.put_line-next-requires c).In-loop-w) (later (goal.at.put_line-next-requires c).In-loop-w) (turned (goal.at.put_line-next-requires c).In-loop-w) c.requires.v_in_bounds

pub overflow_add-place : goal.overflow_add-place
overflow_add-place c = omega (arith, inside (goal.at.overflow_add-place c).In-loop-w)

pub loop-w-preserved : goal.loop-w-preserved
loop-w-preserved c =
    let inv = c.loop-w.invariant in
    let put = c.put_line-next in (
      omega (arith, inv.0),
      (
        place-next c.args.n c.args.v c.loop-w.w _ inv.0 inv.1.0,
        left-next _ _ _ _ _ (next (goal.at.loop-w-preserved c).In-loop-w) (later (goal.at.loop-w-preserved c).In-loop-w) _ _ (turned (goal.at.loop-w-preserved c).In-loop-w) put.ensures put.auto.out,
      ),
    )

pub shape_of-out : goal.shape_of-out
shape_of-out c = c.loop-w.invariant.1.1.sized

pub returns : goal.returns
returns c =
    let a = c.args in
    left_end _ _ _ _ _ _ (row-end (sum_line a.n a.rest a.sums.now) a.n a.v c.loop-w.w c.loop-w-test.false) c.loop-w.invariant.1.1
