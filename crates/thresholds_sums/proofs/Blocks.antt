-- The set of the blocks that a path's mass is added to, and what adding it to them gives.
-- Assumes nothing.
use mathlib.Core.Path.{◌≡◌, refl, ap, sym, ◌∙◌}
use mathlib.Core.Bool.{Bool, true, false, ◌&&◌, ◌||◌, and-false, true≢false}
use mathlib.Core.List.{List}
use mathlib.Core.Logic.{◌⊎◌, inl, inr}
use Prim.Native.Nat.{ℕ, ◌+◌, ◌-◌, ◌*◌, ◌≤◌, ◌<◌}
use native.Mathlib.Decide.{ℕ_discrete}
use native.Mathlib.Nat.{mul-le-mul_left}
use native.Mathlib.Omega.{arith}
use borrow.Author.Tests.{eqb-true, eq-eqb, ne_eqb}
use lib.Dec.{eqb, leb}
use lib.ListN.{length, get_or}
use Rattle.sets.specs.Sets.{bit, joined, digit}
use Rattle.sets.proofs.Laws.{bit-none}
use Rattle.sets.proofs.Bools.{and_right, or-either, not_so}
use Rattle.plan.specs.LentLists.{plan_of_lists}
use Rattle.plan.specs.declared.Header.{Header}
use Rattle.network.specs.Outage.{intact}
use Rattle.walk.specs.Scenario.{scenario_of}
use Rattle.pairs.specs.Pairs.{pair_count}
use Rattle.bounds.specs.Bounds.{cuts}
use Rattle.bounds.specs.Blocks.{BlocksFit, BlocksAdded}
use Rattle.thresholds_walk.specs.declared.WorksPath.{WorksPath}
use Rattle.thresholds_sums.specs.Walked.{plans_of, FallingFirst, PathFits, WantedBlocks, PathAdded, examined_by}

-- the lowest of falling thresholds is met wherever one of them is
pub lowest-least : (active : ℕ) (list : List ℕ) → FallingFirst active list → (i : ℕ) → i < active → get_or list (active - 1) 0 ≤ get_or list i 0
lowest-least active list f i l = go (ℕ_discrete i (active - 1))
  where
    go : Dec (i ≡ active - 1) → get_or list (active - 1) 0 ≤ get_or list i 0
    go (yes e) = omega (arith, ap (λ (n : ℕ). get_or list n 0) e)
    go (no n) = omega (arith, f.falling i (active - 1) (omega arith) (omega arith))

-- of no threshold, the empty set
pub wanted-begin : (list rooms : List ℕ) (last : ℕ) → WantedBlocks list rooms 0 last 0
wanted-begin list rooms last = record { each = λ b l. absurd (omega arith); within = λ b e. absurd (true≢false (sym e ∙ bit-none b)) }

-- a new element by its digit is in a set that lacked it where the digit is 1, and another element stays as it is
element-own : (a d e : Bool) → a ≡ false → e ≡ true → digit (a || (eqb (digit d) 1 && e)) ≡ digit d
element-own true d e h k = absurd (true≢false h)
element-own false d false h k = absurd (true≢false (sym k))
element-own false true true h k = refl
element-own false false true h k = refl

element-other : (a d e : Bool) → e ≡ false → (a || (d && e)) ≡ a
element-other true d e h = refl
element-other false d e h = rw (h, and-false)

-- the set with block i where it is wanted
module _ (list rooms : List ℕ) (last i blocks : ℕ) (g : WantedBlocks list rooms i last blocks)
    (wanted : ℕ) (is : wanted ≡ examined_by (get_or list i 0) (get_or rooms i 0) last) (one next : ℕ)
    (single : (j : ℕ) → bit one j ≡ (eqb wanted 1 && eqb j i)) (either : (j : ℕ) → bit next j ≡ (bit blocks j || bit one j)) where
  element : (b : ℕ) → bit next b ≡ (bit blocks b || (eqb wanted 1 && eqb b i))
  element b = either b ∙ ap (λ (x : Bool). bit blocks b || x) (single b)

  each_turn : (b : ℕ) → b < i + 1 → Dec (b ≡ i) → digit (bit next b) ≡ examined_by (get_or list b 0) (get_or rooms b 0) last
  each_turn b l (yes e) =
      ap digit (element b)
      ∙ ap (λ (x : ℕ). digit (bit blocks b || (eqb x 1 && eqb b i))) (is ∙ ap (λ (x : ℕ). examined_by (get_or list x 0) (get_or rooms x 0) last) (sym e))
      ∙ element-own (bit blocks b) (leb (get_or list b 0) last && leb 2 (get_or rooms b 0)) (eqb b i) (not_so (bit blocks b) (λ h. omega (arith, g.within b h)))
      (eq-eqb b i e)
  each_turn b l (no n) = ap digit (element b ∙ element-other (bit blocks b) (eqb wanted 1) (eqb b i) (ne_eqb b i n)) ∙ g.each b (omega arith)

  below-turn : (b : ℕ) → (bit blocks b ≡ true) ⊎ ((eqb wanted 1 && eqb b i) ≡ true) → b < i + 1
  below-turn b (inl h) = omega (arith, g.within b h)
  below-turn b (inr h) = omega (arith, eqb-true b i (and_right (eqb wanted 1) (eqb b i) h))

  pub wanted-turned : WantedBlocks list rooms (i + 1) last next
  wanted-turned =
      record {
        each = λ b l. each_turn b l (ℕ_discrete b i);
        within = λ b h. below-turn b (or-either (bit blocks b) (eqb wanted 1 && eqb b i) (sym (element b) ∙ h));
      }

module _ (h : Header) (list rooms : List ℕ) (active : ℕ) (path : WorksPath) (lower : List ℕ) (blocks : ℕ)
    (g : WantedBlocks list rooms active path.last blocks) where
  -- the blocks of the set stand in the list and have room
  pub blocks-fit : active ≤ 16 → pair_count h.nodes * active ≤ length lower → PathFits h active path list rooms lower
      → BlocksFit h.nodes blocks path.last lower
  blocks-fit few room fits =
      record {
        few = λ b e. omega (arith, g.within b e);
        room = λ b e. omega (arith, mul-le-mul_left (pair_count h.nodes) (let next : b + 1 ≤ active = omega (arith, g.within b e) in next));
        fits =
            λ b e v w k m.
            let one : examined_by (get_or list b 0) (get_or rooms b 0) path.last ≡ 1 = sym (g.each b (g.within b e)) ∙ ap digit e in
            omega (arith, fits b (g.within b e) v w k m, ap (λ (x : ℕ). path.last * x) one);
      }

  module _ (links words : List ℕ) where
    -- where the set is empty, nothing is added
    pub nothing-added : blocks ≡ 0 → PathAdded (plans_of h links words list) active path rooms lower lower
    nothing-added z =
        record {
          sized = refl;
          each =
              λ i l v w k m.
              let none : examined_by (get_or list i 0) (get_or rooms i 0) path.last ≡ 0 =
              sym (g.each i l) ∙ ap (λ (s : ℕ). digit (bit s i)) z ∙ ap digit (bit-none i) in
              rw none (omega arith);
          past = λ j l. refl;
        }

    -- what is added to the blocks of the set is what the path adds
    pub path-added : (lower' : List ℕ) → BlocksAdded h.nodes
        (λ v w. cuts intact (plan_of_lists h links words) v w (scenario_of h.events (joined path.low path.high))) blocks path.last lower lower'
        → PathAdded (plans_of h links words list) active path rooms lower lower'
    path-added lower' added =
        record {
          sized = added.sized;
          each = λ i l v w k m. rw (← g.each i l) (added.each i v w k m);
          past = λ j l. added.past active g.within j l;
        }
