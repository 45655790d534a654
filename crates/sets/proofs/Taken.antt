-- A set and the set without its lowest element.
-- Assumes nothing.
use mathlib.Core.Path.{◌≡◌, sym, ◌∙◌}
use mathlib.Core.Bool.{true, not}
use mathlib.Core.Logic.{◌⊎◌, inl, inr, ⊎_elim}
use Prim.Native.Nat.{ℕ}
use lib.Dec.{eqb}
use borrow.Author.Tests.{eqb-true}
use Rattle.sets.specs.Sets.{bit}
use Rattle.sets.specs.Elements.{LowestTaken}
use Rattle.sets.proofs.Bools.{and_left, and_both, which, not-of}

module _ {set i others : ℕ} (t : LowestTaken set i others) where
  -- law: each of the others is in the set
  pub other_in : (j : ℕ) → bit others j ≡ true → bit set j ≡ true
  other_in j e = and_left (bit set j) (not (eqb j i)) (sym (t.rest j) ∙ e)

  -- law: an element is the lowest, or one of the others
  pub lowest_or : (j : ℕ) → bit set j ≡ true → (j ≡ i) ⊎ (bit others j ≡ true)
  lowest_or j e =
      ⊎_elim
      (λ s. inl (eqb-true j i s))
      (λ d. inr (t.rest j ∙ and_both (bit set j) _ e (not-of (eqb j i) d)))
      (which (eqb j i))
