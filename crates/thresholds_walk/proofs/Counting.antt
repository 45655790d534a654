-- How many ends a path has in the walk with one threshold.
-- Assumes nothing.
use mathlib.Core.Path.{◌≡◌, sym, ◌∙◌}
use mathlib.Core.List.{List, ◌∷◌}
use Prim.Native.Nat.{ℕ, ◌+◌, ◌-◌, ◌≤◌, ◌<◌}
use native.Mathlib.Numerals.{add-one}
use native.Mathlib.Omega.{arith}
use borrow.Author.Tests.{lt-leb}
use lib.Dec.{leb}
use lib.ListN.{drop, replicate}
use Rattle.mass.specs.Split.{certain}
use Rattle.plan.specs.Lists.{events_of}
use Rattle.plan.specs.Held.{Falling}
use Rattle.walk.specs.Ends.{dropped}
use Rattle.walk.specs.Pending.{Branch}
use Rattle.walk.specs.Stack.{branch_of}
use Rattle.walk.specs.Steps.{Stopped, end_of}
use Rattle.walk.specs.declared.Stop.{Stop}
use Rattle.thresholds_walk.specs.Paths.{shared_walk, FailsBelow, path_ends, SoundPath, own_then_dropped}
use Rattle.thresholds_walk.specs.declared.WorksPath.{WorksPath}
use Rattle.thresholds_walk.proofs.Stops.{path-shared, path-below, entry-none, entry-some, branch-cut, probables, branch-path}

module _ (count lowest t : ℕ) (words : List ℕ) (falls : Falling certain (events_of count words)) (l : lowest ≤ t) (path : WorksPath)
    (s : SoundPath (shared_walk count lowest words) path) where
  abbrev here : Branch
  here = branch_of path.depth path.mass path.low path.high

  -- the walk does not come to it
  pub none_of : path.parent < t → path_ends count t words path ≡ own_then_dropped count t path 0
  none_of h = entry-none path.parent t (events_of count words) here h

  -- it is dropped before the "fails" sides are
  pub one_of : t ≤ path.parent → path.mass < t → path_ends count t words path ≡ own_then_dropped count t path 1
  one_of h c =
      rw (
        entry-some path.parent t (events_of count words) here h,
        branch-cut t (events_of count words) here c,
        lt-leb t path.last (omega (arith, s.stops.lighter)),
      )

  module _ (enough : t ≤ path.mass) where
    fails-below : FailsBelow count t words path.depth path.mass
    fails-below h k = omega (arith, s.fails-below (omega arith) k)

    -- its end and the dropped ones after it, where its "works" path stops for t
    stopped-at : (end : Stop) → Stopped count t words path.depth path.mass end
        → path_ends count t words path
        ≡ end_of count (leb t end.mass) end.mass path.low path.high ∷ replicate (end.depth - path.depth) dropped
    stopped-at end stops =
        entry-some path.parent t (events_of count words) here (omega (arith, s.lighter))
        ∙ branch-path count words falls t path.depth path.mass path.low path.high s.deep s.decided enough fails-below end stops

    -- it is the path of the lowest threshold
    pub all_of : t ≤ path.last → path_ends count t words path ≡ own_then_dropped count t path (path.stop - path.depth + 1)
    all_of h =
        rw (add-one (path.stop - path.depth))
        (stopped-at (record { depth = path.stop; mass = path.last })
        (let stops = s.stops in
        let same = path-shared lowest t path.mass (drop path.depth (events_of count words)) (probables count words falls path.depth) l (omega (arith, stops.stops)) in
        record {
          steps = omega (arith, stops.steps, same.0);
          stops = stops.stops ∙ sym same.1;
          within = stops.within;
          light = stops.light;
          lighter = stops.lighter;
        }))

    -- it is a path of its own, and is dropped
    pub own_of : path.last < t → (end : Stop) → Stopped count t words path.depth path.mass end
        → path_ends count t words path ≡ own_then_dropped count t path (end.depth - path.depth + 1)
    own_of h end stops =
        let below : end.mass < t =
        omega (arith, stops.stops, path-below lowest t path.mass (drop path.depth (events_of count words)) l (omega (arith, s.stops.stops))) in
        rw (add-one (end.depth - path.depth), lt-leb t path.last h)
        (stopped-at end stops ∙ rw (lt-leb t end.mass below))
