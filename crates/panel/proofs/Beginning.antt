-- A walk that begins: it has reached no end of its plan.
-- Assumes nothing.
use mathlib.Core.Path.{◌≡◌, refl, ap, ◌∙◌}
use mathlib.Core.List.{List, [], ◌∷◌}
use Prim.Native.Nat.{ℕ, min}
use native.Mathlib.Omega.{arith}
use lib.ListN.{length, take, replicate}
use lib.Seq.{sets}
use Rattle.mass.specs.Split.{whole}
use Rattle.plan.specs.LentLists.{plan_of_lists}
use Rattle.plan.specs.declared.Header.{Header}
use Rattle.plan_lists.specs.Taken.{Taken}
use Rattle.network.specs.Outage.{intact}
use Rattle.walk.specs.Walk.{plan_ends}
use Rattle.walk.specs.Stack.{Begun}
use Rattle.walk.proofs.Resume.{Alone, begun-alone, begun-stack, begun-whole, begun-mass, root-entry}
use Rattle.pairs.specs.Pairs.{place}
use Rattle.bounds.proofs.Zeros.{cleared}
use Rattle.panel.specs.Walks.{WalkAt, root_walk}
use Rattle.walk_state.specs.declared.Walk.{Walk}

-- an array of zeros
abbrev zeros : ℕ → List ℕ
zeros n = replicate n 0

module _ (h : Header) (links events bytes words : List ℕ) (at : ℕ) (stack : List ℕ) (b : Begun at (zeros 512) stack) where
  -- the walk as it was made
  abbrev made : Walk
  made =
      record { header = h; links = bytes; events = words; stack = stack; sums = zeros 2016; at = at; reached = 0; count = 0; mass = 0 }

  pub is-root : bytes ≡ sets (zeros 256) 0 (take (min (length links) 256) links) → words ≡ sets (zeros 512) 0 (take (min (length events) 512) events)
      → made ≡ root_walk h links events
  unfolding root_walk
  is-root c d =
      let place : at ≡ 508 = b.place in
      let laid : stack ≡ sets (zeros 512) 508 (0 ∷ whole ∷ 0 ∷ 0 ∷ []) = rw place at b.laid in
      λ i. record { header = h; links = c i; events = d i; stack = laid i; sums = zeros 2016; at = place i; reached = 0; count = 0; mass = 0 }

  alone : Alone 0 whole 0 0 at stack
  alone = begun-alone at (zeros 512) stack refl b

  pub begun : Taken h links events bytes words → WalkAt intact (plan_of_lists h links events) 0 made
  unfolding plan_of_lists
  begun t =
      record {
        plan = t.denoted;
        valid = t.valid;
        reached = refl;
        under-cap = omega arith;
        within = omega arith;
        stacked = begun-stack 0 whole 0 0 at stack alone (omega arith) h.events (root-entry h.events);
        ends = begun-whole at stack alone h.events h.threshold words ∙ ap plan_ends t.denoted;
        counts = refl;
        masses = refl;
        sums = record { sized = cleared.sized; below = λ i. omega (arith, cleared.zeros i); each = λ v w l k. cleared.zeros (place h.nodes v w) };
        pending = omega (arith, begun-mass 0 whole 0 0 at stack alone (omega arith));
      }
