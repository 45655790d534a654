-- `thresholds_sums::walking::walk_with` meets its contract. The loop's invariant: for each threshold under way, what was reached and what is to
-- come give its plan's answers; all else is untouched. The measure: how many ends of the lowest are to come, then how many branches are
-- pending. Where the cap is reached, the check finds the proof. Assumes nothing.
use mathlib.Core.Logic.{inr}
use native.Mathlib.Omega.{arith}
use Rattle.thresholds_sums.proofs.Turns.{path-fits, counts-fit, decided, all-counted-on, kept-begin, kept_on}
use Rattle.thresholds_sums.proofs.walking.walk_with.Goals as goal

pub overflow_sub-lowest : goal.overflow_sub-lowest
overflow_sub-lowest c = c.requires.falling_first.1

pub offset_bounds-list-active : goal.offset_bounds-list-active
offset_bounds-list-active c = omega (arith, c.requires.falling_first.0.few)

pub bounds-list-active : goal.bounds-list-active
bounds-list-active c = omega (arith, c.requires.falling_first.0.few, c.requires.falling_first.1)

pub loop-at-init : goal.loop-at-init
loop-at-init c =
    (c.requires.shared_stack.0, c.requires.all_counted_so_far, kept-begin _ _ _ _ c.requires.shared_stack.2)

pub overflow_sub-active : goal.overflow_sub-active
overflow_sub-active c = c.requires.falling_first.1

pub offset_bounds-places-active : goal.offset_bounds-places-active
offset_bounds-places-active c = omega (arith, c.requires.falling_first.0.few)

pub bounds-places-active : goal.bounds-places-active
bounds-places-active c =
    omega (arith, c.requires.falling_first.0.few, c.requires.falling_first.1)

pub next_path-path-requires : goal.next_path-path-requires
next_path-path-requires c =
    (c.requires.held.events-fit, c.requires.held.falling, c.loop-at-test.true, c.loop-at.invariant.0)

pub add_path-requires : goal.add_path-requires
add_path-requires c =
    let t = c.next_path-path.ensures in
    record {
      held = c.requires.held;
      links_at = c.requires.links_at;
      falling_first = (c.requires.falling_first.0, c.requires.falling_first.1, decided _ _ c.requires.falling_first.0 c.requires.held c.requires.falling_first.2 _ _ _ _ c.loop-at.invariant.1 _ _ t);
      active_in_bounds = omega (arith, c.requires.shared_stack.1, c.loop-at.invariant.2.sized);
      path_fits = path-fits _ _ c.requires.falling_first.0 c.requires.held c.requires.falling_first.2 _ _ _ _ c.loop-at.invariant.1 _ _ t;
    }

pub count_path-requires : goal.count_path-requires
count_path-requires c =
    let t = c.next_path-path.ensures in
    record {
      events_bound = (c.requires.held.events-fit, c.requires.held.falling);
      falling_first = (c.requires.falling_first.0, c.requires.falling_first.1);
      sound_path = t.sound;
      places = (c.loop-at.invariant.2.arrays, counts-fit _ _ c.requires.falling_first.0 c.requires.held c.requires.falling_first.2 _ _ _ _ c.loop-at.invariant.1 _ _ t);
    }

pub loop-at-smaller : goal.loop-at-smaller
loop-at-smaller c = c.next_path-path.ensures.fewer

pub loop-at-preserved : goal.loop-at-preserved
loop-at-preserved c =
    let t = c.next_path-path.ensures in
    let added = c.add_path.ensures in (
      t.held,
      all-counted-on _ _ c.requires.falling_first.0 c.requires.held c.requires.falling_first.2 _ _ _ _ c.loop-at.invariant.1 _ _ t _ added _ c.count_path.ensures,
      kept_on _ _ c.requires.falling_first.0 c.requires.held c.requires.falling_first.2 _ _ _ _ c.loop-at.invariant.1 _ _ t _ added _ c.count_path.ensures _ _
          c.loop-at.invariant.2,
    )

pub shape_of-lower : goal.shape_of-lower
shape_of-lower c = c.loop-at.invariant.2.sized

pub returns : goal.returns
returns c =
    let inv = c.loop-at.invariant in
    record {
      shared_stack_2 = inv.0;
      all_counted_so_far_2 = inv.1;
      kept = inv.2;
      fact = inr (omega (arith, c.loop-at-test.false, inv.0.within));
    }
