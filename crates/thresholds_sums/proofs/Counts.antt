-- One turn of the loop that counts a path for the thresholds under way.
-- Assumes nothing.
use mathlib.Core.Path.{◌≡◌, refl, ap, sym, subst, ◌∙◌}
use mathlib.Core.List.{List}
use Prim.Native.Nat.{ℕ, ◌+◌, ◌-◌, ◌*◌, ◌<◌}
use native.Mathlib.Decide.{ℕ_discrete}
use native.Mathlib.Omega.{arith}
use lib.ListN.{get_or, set, length-set}
use lib.Seq.{get_or-set_same, get_or-set_other}
use Rattle.thresholds_walk.specs.Paths.{SharedWalk, path_ends, own_then_dropped}
use Rattle.thresholds_walk.specs.declared.WorksPath.{WorksPath}
use Rattle.thresholds_sums.specs.declared.PlaceNumbers.{PlaceNumbers}
use Rattle.thresholds_sums.specs.Walked.{place_numbers, numbers_at, Places, SamePlace, Counted, PathCounted, examined_by}

-- nothing is counted yet
pub counts-begin : (k : SharedWalk) (list : List ℕ) (path : WorksPath) (n : PlaceNumbers) → Places n → PathCounted k list 0 path n n
counts-begin k list path n sized = record { sized = sized; each = λ i l. absurd (omega arith); past = λ i l. (refl, refl, refl) }

module _ (k : SharedWalk) (list : List ℕ) (path : WorksPath) (n₀ n : PlaceNumbers) (i : ℕ) (g : PathCounted k list i path n₀ n) (few : i < 16)
    (ends : ℕ) (are : path_ends k.count (get_or list i 0) k.words path ≡ own_then_dropped k.count (get_or list i 0) path ends)
    (none : ends ≡ 0 → path.last < get_or list i 0)
    (one : ℕ) (is : one ≡ examined_by (get_or list i 0) (get_or n.rooms i 0) path.last) (left : ℕ) (rest : left ≡ get_or n.rooms i 0 - ends) where
  abbrev n' : PlaceNumbers
  n' =
      place_numbers (set n.rooms i left) (set n.counts i (get_or n.counts i 0 + one))
      (set n.masses i (get_or n.masses i 0 + path.last * one))

  same-one : one ≡ examined_by (get_or list i 0) (get_or n₀.rooms i 0) path.last
  same-one = is ∙ ap (λ (x : ℕ). examined_by (get_or list i 0) x path.last) (g.past i (omega arith)).0

  own : Counted k (get_or list i 0) path (numbers_at n₀ i) (numbers_at n' i)
  own =
      record {
        ends = ends;
        are = are;
        none = none;
        left = get_or-set_same n.rooms i left 0 (omega (arith, g.sized.rooms-size)) ∙ rest ∙ ap (λ (x : ℕ). x - ends) (g.past i (omega arith)).0;
        counted =
            get_or-set_same n.counts i (get_or n.counts i 0 + one) 0 (omega (arith, g.sized.counts-size))
            ∙ omega (arith, (g.past i (omega arith)).1, same-one);
        added =
            get_or-set_same n.masses i (get_or n.masses i 0 + path.last * one) 0 (omega (arith, g.sized.masses-size))
            ∙ omega (arith, (g.past i (omega arith)).2, ap (λ (x : ℕ). path.last * x) same-one);
      }

  other : (b : ℕ) → (b ≡ i → ⊥) → SamePlace n n' b
  other b apart = (
    get_or-set_other n.rooms i b left 0 apart,
    get_or-set_other n.counts i b (get_or n.counts i 0 + one) 0 apart,
    get_or-set_other n.masses i b (get_or n.masses i 0 + path.last * one) 0 apart,
  )

  each_turn : (b : ℕ) → b < i + 1 → Dec (b ≡ i) → Counted k (get_or list b 0) path (numbers_at n₀ b) (numbers_at n' b)
  each_turn b l (yes e) = subst (λ (x : ℕ). Counted k (get_or list x 0) path (numbers_at n₀ x) (numbers_at n' x)) (sym e) own
  each_turn b l (no apart) =
      let old = g.each b (omega arith) in
      let o = other b apart in
      record {
        ends = old.ends;
        are = old.are;
        none = old.none;
        left = o.0 ∙ old.left;
        counted = o.1 ∙ old.counted;
        added = o.2 ∙ old.added;
      }

  pub count-turned : PathCounted k list (i + 1) path n₀ n'
  count-turned =
      record {
        sized =
            record {
              rooms-size = length-set n.rooms i left ∙ g.sized.rooms-size;
              counts-size = length-set n.counts i (get_or n.counts i 0 + one) ∙ g.sized.counts-size;
              masses-size = length-set n.masses i (get_or n.masses i 0 + path.last * one) ∙ g.sized.masses-size;
            };
        each = λ b l. each_turn b l (ℕ_discrete b i);
        past =
            λ b l.
            let o = other b (λ e. omega arith) in
            let old = g.past b (omega arith) in
            (o.0 ∙ old.0, o.1 ∙ old.1, o.2 ∙ old.2);
      }
