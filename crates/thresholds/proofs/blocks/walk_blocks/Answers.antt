-- `thresholds::blocks::walk_blocks` meets its contract. Assumes nothing.
use mathlib.Core.Path.{ap, ◌∙◌}
use mathlib.Core.List.{List}
use Prim.Native.Nat.{ℕ, ◌+◌, ◌*◌}
use native.Mathlib.Omega.{arith}
use lib.ListN.{length, get_or, replicate}
use lib.Seq.{sets}
use Rattle.bounds.proofs.Zeros.{zeros-at}
use Rattle.thresholds.proofs.TestLaws.{test-none}
use Rattle.thresholds.proofs.WalkLaws.{size-most, falling-first, fresh, blocks-walked}
use Rattle.thresholds.proofs.blocks.walk_blocks.Goals as goal

pub copy_first-requires : goal.copy_first-requires
copy_first-requires c =
    (omega arith, omega (arith, (test-none c.args.list.now c.requires.cap_bound.1).1))

pub copy_raised-requires : goal.copy_raised-requires
copy_raised-requires c =
    let z = c.requires.rooms_value in
    let few = (test-none c.args.list.now c.requires.cap_bound.1).1 in
    record {
      start_in_bounds = (omega (arith, few, ap length z.1.1), omega (arith, few, ap length z.0));
      by_index = λ i l. omega (arith, ap (λ (x : List ℕ). get_or x (i + 0) 0) z.1.1, zeros-at 16 (i + 0), c.requires.cap_bound.0);
    }

pub overflow_mul-pair_count : goal.overflow_mul-pair_count
overflow_mul-pair_count c =
    omega (arith, size-most c.args.h.nodes _ c.args.list.now c.requires.held.links-held.nodes-fit c.pair_count.ensures c.requires.cap_bound.1)

pub clear-requires : goal.clear-requires
clear-requires c = rw c.pair_count.ensures c.requires.list_in_bounds

pub walk_thresholds-requires : goal.walk_thresholds-requires
walk_thresholds-requires c =
    let a = c.args in
    let tested = c.requires.cap_bound.1 in
    let is = c.copy_first.ensures in
    record {
      held = c.requires.held;
      falling_first = (falling-first a.list.now _ tested is, c.requires.cap_bound.0);
      fresh = fresh a.list.now _ tested is a.h _ _ _ _ a.lower.now _ c.requires.rooms_value c.copy_raised.ensures c.requires.list_in_bounds
          (c.clear.ensures ∙ ap (λ (x : ℕ). sets a.lower.now 0 (replicate (x * length a.list.now) 0)) c.pair_count.ensures);
    }

pub returns : goal.returns
returns c =
    let a = c.args in
    blocks-walked a.list.now _ c.requires.cap_bound.1 c.copy_first.ensures a.h _ _ _ _ a.lower.now _ c.requires.rooms_value c.copy_raised.ensures
    c.requires.list_in_bounds
    (c.clear.ensures ∙ ap (λ (x : ℕ). sets a.lower.now 0 (replicate (x * length a.list.now) 0)) c.pair_count.ensures)
    a.links.now
    a.words.now
    _
    _
    c.walk_thresholds.ensures
