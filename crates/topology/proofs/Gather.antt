-- The union of the rows of a set, element by element: what is left of the set, and what is done.
-- Assumes nothing.
use mathlib.Core.Path.{◌≡◌, sym, ap, ◌∙◌}
use mathlib.Core.Bool.{true, ◌||◌}
use mathlib.Core.List.{List}
use mathlib.Core.Logic.{◌⊎◌, inl, inr, ⊎_elim, ◌↔◌}
use Prim.Native.Nat.{ℕ}
use lib.ListN.{get_or}
use Rattle.sets.specs.Sets.{bit}
use Rattle.sets.specs.Elements.{LowestTaken}
use Rattle.sets.proofs.Laws.{bit-none}
use Rattle.sets.proofs.Bools.{or-either, or_left, or_right, clash}
use Rattle.sets.proofs.Taken.{other_in, lowest_or}
use Rattle.topology.specs.RowPaths.{InRows}

-- all holds rows of the set only, and every row of the set but for those of what is left
pub record Gathered (rows : List ℕ) (s all left : ℕ) : Type 0 where
  pub within : (j : ℕ) → bit left j ≡ true → bit s j ≡ true
  pub sound : (w : ℕ) → bit all w ≡ true → InRows rows s w
  pub whole : (w : ℕ) → InRows rows s w → (bit all w ≡ true) ⊎ InRows rows left w

module _ (rows : List ℕ) (s : ℕ) where
  pub gathered_none : (left : ℕ) → left ≡ s → Gathered rows s 0 left
  gathered_none left e = record {
    within = λ j b. ap (λ (x : ℕ). bit x j) (sym e) ∙ b;
    sound = λ w b. absurd (clash b (bit-none w));
    whole = λ w r. inr (rw e r);
  }

  pub gathered_next : (all left new rest found : ℕ) → LowestTaken left found rest
      → ((j : ℕ) → bit new j ≡ (bit all j || bit (get_or rows found 0) j))
      → Gathered rows s all left → Gathered rows s new rest
  gathered_next all left new rest found t grown g = record {
    within = λ j e. g.within j (other_in t j e);
    sound = λ w e.
        ⊎_elim (λ a. g.sound w a) (λ r. (found, g.within found t.found, r)) (or-either (bit all w) (bit (get_or rows found 0) w) (sym (grown w) ∙ e));
    whole = λ w r. ⊎_elim (λ a. inl (grown w ∙ or_left (bit all w) (bit (get_or rows found 0) w) a)) (λ r'. moved w r') (g.whole w r);
  }
    where
      moved : (w : ℕ) → InRows rows left w → (bit new w ≡ true) ⊎ InRows rows rest w
      moved w r =
          ⊎_elim
          (λ e. inl (grown w ∙ or_right (bit all w) (bit (get_or rows found 0) w) (ap (λ (x : ℕ). bit (get_or rows x 0) w) (sym e) ∙ r.2)))
          (λ e. inr (r.0, e, r.2))
          (lowest_or t r.0 r.1)

  pub gathered-all : (all left : ℕ) → left ≡ 0 → Gathered rows s all left → (w : ℕ) → (bit all w ≡ true) ↔ InRows rows s w
  gathered-all all left e g w = (g.sound w, λ r. ⊎_elim (λ a. a) (λ r'. absurd (clash r'.1 (ap (λ (x : ℕ). bit x r'.0) e ∙ bit-none r'.0))) (g.whole w r))
