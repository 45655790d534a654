-- `walk_words::walk_of` meets its contract: each part is taken from its place. Assumes nothing.
use mathlib.Core.Path.{◌≡◌}
use mathlib.Core.List.{List, map}
use Prim.Native.Nat.{ℕ, ◌%◌}
use lib.ListN.{take, drop}
use Rattle.walk_state.specs.declared.Walk.{Walk}
use Rattle.walk_words.specs.WalkWords.{walk_of}
use Rattle.walk_words.proofs.walk_of.Goals as goal

-- the walk of words, with these arrays
abbrev with_arrays : List ℕ → List ℕ → List ℕ → List ℕ → List ℕ → Walk
with_arrays s links events stack sums =
    let w = walk_of s in
    record {
      header = w.header;
      links = links;
      events = events;
      stack = stack;
      sums = sums;
      at = w.at;
      reached = w.reached;
      count = w.count;
      mass = w.mass;
    }

made : (s links events stack sums : List ℕ) → links ≡ map (λ (x : ℕ). x % 256) (take 256 (drop 9 s)) → events ≡ take 512 (drop 265 s)
    → stack ≡ take 512 (drop 777 s) → sums ≡ take 2016 (drop 1289 s)
    → with_arrays s links events stack sums ≡ walk_of s
unfolding walk_of
made s links events stack sums l e k m = rw (l, e, k, m)

pub returns : goal.returns
unfolding walk_of
returns c =
    made c.args.state.now _ _ _ _ c.narrow.ensures c.take_words.ensures c.take_words-2.ensures c.take_words-3.ensures
