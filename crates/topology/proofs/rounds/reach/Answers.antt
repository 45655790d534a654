-- `topology::rounds::reach` meets its contract. The loop's invariant: what is seen is the set after round k, fresh is what round k + 1 adds, and
-- each round up to k has added a node. The measure: there are at most 64 rounds. Assumes nothing.
use mathlib.Core.Path.{ap, ◌∙◌}
use mathlib.Core.Bool.{Bool, ◌&&◌}
use Prim.Native.Nat.{suc, ◌≤◌}
use native.Mathlib.Omega.{arith}
use Rattle.sets.specs.Sets.{bit}
use Rattle.topology.proofs.Round.{turn-first, turn-counts, turn-next, begins, turn-paths, turn-answer}
use Rattle.topology.proofs.rounds.reach.Goals.{After-less-fresh-in-loop-fresh}
use Rattle.topology.proofs.rounds.reach.Goals as goal

pub loop-fresh-init : goal.loop-fresh-init
loop-fresh-init c = (
  0,
  omega arith,
  omega arith,
  omega arith,
  turn-first _ _ _ c.rows_of.result _ (omega arith) (omega arith)
      (begins _ _ _
      (λ w. c.both-seen.ensures w ∙ ap (λ (x : Bool). bit c.args.nodes w && x) (c.only.ensures w)))
      c.rows_of.ensures
      c.less-fresh.ensures,
)

-- a round that adds a node is not the 64th
room : (c : After-less-fresh-in-loop-fresh) → suc c.loop-fresh.rounds ≤ 64
room c =
    let loop = c.loop-fresh in
    omega (arith, turn-counts _ _ loop.invariant.0 loop.seen loop.fresh loop.invariant.4 loop.invariant.3 (λ e. omega arith), loop.invariant.1)

pub overflow_add-rounds : goal.overflow_add-rounds
overflow_add-rounds c = omega (arith, room c)

pub loop-fresh-smaller : goal.loop-fresh-smaller
loop-fresh-smaller c = omega (arith, room c)

pub loop-fresh-preserved : goal.loop-fresh-preserved
loop-fresh-preserved c =
    let loop = c.loop-fresh in (
      suc loop.invariant.0,
      omega (arith, loop.invariant.1),
      omega arith,
      omega arith,
      turn-next _ _ loop.invariant.0 loop.seen loop.fresh loop.invariant.4 c.union-seen.result c.rows_of-in-loop-fresh.result c.less-fresh-in-loop-fresh.result
          loop.invariant.3
          (omega arith)
          (λ e. omega arith)
          c.union-seen.ensures
          c.rows_of-in-loop-fresh.ensures
          c.less-fresh-in-loop-fresh.ensures,
    )

pub returns : goal.returns
returns c =
    let loop = c.loop-fresh in
    record {
      paths = turn-paths _ _ _ loop.invariant.0 loop.seen loop.fresh loop.invariant.4 loop.invariant.2 (omega arith) c.requires;
      rounds = turn-answer _ _ _ loop.invariant.0 loop.seen loop.fresh loop.invariant.4 loop.invariant.2 (omega arith) loop.rounds loop.invariant.1;
    }
